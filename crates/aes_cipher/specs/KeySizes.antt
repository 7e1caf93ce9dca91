-- The sizes of keys.
use Rattle.std.specs.Prelude.{◌≡◌, ◌⊎◌, ℕ}

-- a number of bytes that keys have
abbrev pub IsKeySize : ℕ → Type 0
IsKeySize size = (size ≡ 16) ⊎ ((size ≡ 24) ⊎ (size ≡ 32))
