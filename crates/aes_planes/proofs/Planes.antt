-- Eight planes and the blocks that they hold.
pub mod EightWords
pub mod Held
pub mod Holds
pub mod Packed
