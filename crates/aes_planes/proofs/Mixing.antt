-- Column mixing.
pub mod Combinations
pub mod MixColumns
pub mod Rotations
