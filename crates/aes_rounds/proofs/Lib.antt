-- The file of lemmas: the round keys of EqInvCipher, on lists of blocks.
pub mod InvertedKeys
