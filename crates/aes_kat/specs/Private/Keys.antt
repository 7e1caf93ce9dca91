-- The bytes of a key, whichever of the three sizes it has.
use Rattle.std.specs.Prelude.{ℕ, List}
use Rattle.aes_kat.specs.declared.keys.Key.{Key}
use Rattle.aes_kat.specs.declared.keys.Key.TheVariants.{Bits128, Bits192, Bits256}

-- the bytes of a key
abbrev pub key_bytes : Key → List ℕ
key_bytes (Bits128 bytes) = bytes
key_bytes (Bits192 bytes) = bytes
key_bytes (Bits256 bytes) = bytes
