-- The files of lemmas: the key expansion on blocks, and rounds whose mixing is undone.
pub mod BlockExpansion
pub mod SingleRounds
