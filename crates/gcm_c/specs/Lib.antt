-- The files of definitions: the form of a key, and the structs of GCM and of AES-GCM-SIV.
pub mod Form
pub mod Kept
pub mod Siv
