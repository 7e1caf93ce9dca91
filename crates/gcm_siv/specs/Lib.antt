-- The files of definitions: the standard, and what private functions do on the way (Private).
pub mod GcmSiv
pub mod Private
