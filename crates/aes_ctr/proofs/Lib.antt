-- The files of lemmas.
pub mod Counters
pub mod OnLiterals
pub mod Places
pub mod Runs
pub mod Sums
