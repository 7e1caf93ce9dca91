-- The files of definitions: the form of a key, and the lengths that calls take.
pub mod Form
pub mod Lengths
