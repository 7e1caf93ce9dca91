-- The file of lemmas: the length of a kept key.
pub mod KeyLength
