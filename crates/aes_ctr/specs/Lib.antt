-- The files of definitions: counter mode, keystreams of any counter blocks, and what private
-- functions do on the way (Private).
pub mod CounterMode
pub mod Private
pub mod Streams
