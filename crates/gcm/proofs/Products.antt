-- Products of blocks: sums, powers, the reduction, and products bit by bit.
pub mod BitByBit
pub mod Linear
pub mod Masks
pub mod Powers
pub mod Reduction
