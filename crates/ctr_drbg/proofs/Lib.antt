-- The files of lemmas: output, strings and working states, and what examples compute with.
pub mod Keystream
pub mod OnLiterals
pub mod States
pub mod Strings
