-- The files of definitions.
pub mod Blocks
pub mod KeySizes
pub mod Lends
pub mod Lengths
