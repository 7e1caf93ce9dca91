-- The files of lemmas: lines and words, blocks, and what a part of the work has done.
pub mod Lines
pub mod OnLiterals
pub mod OperandBytes
pub mod Blocks
pub mod Progress
