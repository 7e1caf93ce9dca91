-- What is said of a key that is kept in this build's form: what it is (key_in, round_keys_in), that
-- there is one (HoldsKey), and that its struct is in order (IsKept); and of the struct that a
-- caller keeps for both directions: that it is in order, as set_key and wipe leave it (IsMade),
-- that nothing of another key is left after its round keys (IsZeroAfter), and that it holds none
-- (no_key).
pub use Rattle.aes_hybrid.specs.KeptKey.{key_in, round_keys_in, HoldsKey, IsKept}
pub use Rattle.aes_hybrid.specs.KeptKey.{IsKeptBothWays as IsMade, IsZeroAfterBoth as IsZeroAfter, no_key_both_ways as no_key}
