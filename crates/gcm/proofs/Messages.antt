-- Messages: GHASH, GCTR, tags, and messages in pieces.
pub mod Counting
pub mod Hashing
pub mod InPieces
