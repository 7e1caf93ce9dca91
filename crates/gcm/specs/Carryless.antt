-- Products of numbers without carries, and the holes between bits that keep carries apart.
use Rattle.std.specs.Prelude.{ℕ, zero, suc, ◌+◌, ◌*◌, ◌/◌, ◌%◌, ◌==◌, if◌then◌else◌}
use Rattle.std.specs.Int.Bits.{bit_xor}

-- the lowest n bits of x times y: y is shifted to each bit that is 1, and summed modulo 2 in each
-- place
unfoldable pub carryless : ℕ → ℕ → ℕ → ℕ
carryless zero x y = 0
carryless (suc n) x y =
    bit_xor (carryless n (x / 2) y * 2) (if x % 2 == 0 then 0 else y)

-- the lowest bit of each of n digits of 16
unfoldable pub holes : ℕ → ℕ
holes zero = 0
holes (suc n) = holes n * 16 + 1
