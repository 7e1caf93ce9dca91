-- The files of lemmas.
pub mod BlockNumbers
pub mod ByteBlocks
pub mod FirstBlocks
pub mod SliceRuns
pub mod Strings
pub mod Zeros
