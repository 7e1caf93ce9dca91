-- Products without carries, by products of numbers with holes.
pub mod Carryless
pub mod Digits
pub mod Fourths
pub mod Mirrored
