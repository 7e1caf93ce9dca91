-- Shifts of rows on planes, and rounds whose shifts are deferred.
pub mod ColumnSwaps
pub mod Deferred
