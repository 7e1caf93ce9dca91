-- The files of definitions: the struct that keeps a key, and its word.
pub mod KeptKey
pub mod KeptWord
