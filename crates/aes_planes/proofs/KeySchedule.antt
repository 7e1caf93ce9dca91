-- The key schedule: its words, four of them at a time, and sums of columns.
pub mod AddedWords
pub mod ExpandedBlocks
pub mod ExpandedWords
pub mod ExpansionLength
pub mod Forms
pub mod RoundConstantBit
pub mod SummedColumns
