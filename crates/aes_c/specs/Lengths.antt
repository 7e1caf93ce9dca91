-- Lengths that calls for C take.
use Rattle.std.specs.Prelude.{ℕ, ◌≤◌}

-- a number of bytes that a tag of CMAC can have here: SP 800-38B allows fewer than four too
abbrev pub IsCmacLength : ℕ → Type 0
IsCmacLength n = (4 ≤ n) × (n ≤ 16)
