-- The files of definitions: lines, the reply to each, the answers to all, the exit status; and what
-- private functions do (Private).
pub mod Lines
pub mod Reply
pub mod Answers
pub mod Status
pub mod Private
