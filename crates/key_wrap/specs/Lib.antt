-- The files of definitions.
pub mod KeyWrap
pub mod Padded
