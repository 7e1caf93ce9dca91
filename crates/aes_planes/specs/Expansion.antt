-- How many substitutions the key expansion makes.
use Rattle.std.specs.Prelude.{ℕ, ◌==◌, cond}

-- how often the expansion of a key of that many bytes, 16, 24 or 32, substitutes a word (5.2)
abbrev pub substitutions : ℕ → ℕ
substitutions size = cond (size == 16) 10 (cond (size == 24) 8 13)
