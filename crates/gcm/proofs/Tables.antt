-- Tables of multiples: their rows, looked up, moved and summed.
pub mod MovedRows
pub mod Nibbles
pub mod RowPairs
pub mod RowSums
pub mod Rows
pub mod Written
