-- The S-box: its inverse and its circuits.
pub mod Circuits
pub mod GateLists
pub mod InverseSBox
