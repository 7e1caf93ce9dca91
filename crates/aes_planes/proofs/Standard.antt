-- The standard: its field, its steps and its ciphers.
pub mod AllRounds
pub mod ByTable
pub mod CipherInverses
pub mod CipherLaws
pub mod EquivalentInverse
pub mod FieldInverses
pub mod FieldLaws
pub mod InvertedKeys
pub mod LinearSteps
pub mod States
pub mod Steps
