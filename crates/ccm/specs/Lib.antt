-- The files of definitions.
pub mod Ccm
