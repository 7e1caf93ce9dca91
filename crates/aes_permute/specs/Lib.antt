-- The files of definitions.
pub mod Keys
pub mod Lookup
pub mod MixedRows
pub mod Stored
pub mod TwoIndices
pub mod Vectors
