-- The files of definitions.
pub mod Chain
pub mod Cmac
pub mod Pieces
