-- Bits and bytes: claims by all cases, and the bits of numbers.
pub mod BitCases
pub mod ByteCases
pub mod BytesByBits
pub mod Digits
pub mod NumberBits
