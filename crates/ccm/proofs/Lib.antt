-- The files of lemmas.
pub mod Bytes
pub mod Counters
pub mod Lengths
pub mod OnLiterals
