-- What private functions do on the way: no public contract names it.
pub mod BuiltLength
pub mod Packing
pub mod Swaps
