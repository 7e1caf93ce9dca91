-- The files of lemmas: counter blocks, derived keys, POLYVAL by GCM's field, and messages.
pub mod CounterBlocks
pub mod DerivedKeys
pub mod Field
pub mod Hashing
pub mod Messages
pub mod OnLiterals
