-- Doubling without a branch on the bit that falls out.
use Rattle.std.proofs.Common.{◌≡◌, ℕ, zero, suc, ◌*◌, ◌/◌, ◌%◌, ◌^◌, ◌<◌, ◌==◌, if◌then◌else◌}
use Rattle.std.proofs.Common.{bit_xor, refl, arith}
use Rattle.std.specs.Int.Bits.{xor_zero_r}
use Rattle.cmac.specs.Cmac.{doubled, first_bit, shifted}

-- 0x87 times the bit is 0x87 or nothing
by_bit : (q y : ℕ) → q < 2 → bit_xor y (0x87 * q) ≡ (if q == 0 then y else bit_xor y 0x87)
by_bit zero y small = xor_zero_r y
by_bit (suc zero) y small = refl
by_bit (suc (suc q)) y small = omega (arith, small)

-- doubling is a shift plus 0x87 times the first bit
pub doubled_by_product : (x : ℕ) → x < 2 ^ 128
    → bit_xor (x * 2 % 2 ^ 128) (0x87 * (x / 2 ^ 127)) ≡ doubled x
unfolding doubled first_bit shifted
doubled_by_product x small = by_bit (x / 2 ^ 127) (x * 2 % 2 ^ 128) (omega (arith, small))
