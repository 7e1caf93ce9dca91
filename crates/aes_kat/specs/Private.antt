-- What private functions do on the way: no public contract names it.
pub mod Keys
pub mod Progress
pub mod Steps
