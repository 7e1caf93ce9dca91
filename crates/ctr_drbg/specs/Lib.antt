-- The file of definitions: the generator as the standard has it.
pub mod CtrDrbg
