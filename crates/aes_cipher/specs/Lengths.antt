-- Exact lists of lengths.
use Rattle.std.specs.Prelude.{◌≡◌, ◌⊎◌, ℕ, List, [], ◌∷◌}

-- a number is one of a list
abbrev pub IsOneOf : List ℕ → ℕ → Type 0
IsOneOf [] n = ⊥
IsOneOf (m ∷ ms) n = (n ≡ m) ⊎ IsOneOf ms n
