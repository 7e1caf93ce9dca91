-- The files of lemmas.
pub mod Headed
pub mod OnLiterals
pub mod Padding
pub mod Rewrapped
pub mod Turns
pub mod Undone
