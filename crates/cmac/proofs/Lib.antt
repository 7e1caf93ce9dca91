-- The files of lemmas.
pub mod Chains
pub mod Doubling
pub mod InPieces
pub mod OnLiterals
pub mod Padding
