-- The file of lemmas: what holds under a struct's key.
mod Carried
