-- The files of lemmas: parts of slices, round keys as planes, and what examples compute with.
pub mod Fronts
pub mod OnLiterals
pub mod PlaneKeys
