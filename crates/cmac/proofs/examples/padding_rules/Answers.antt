use Rattle.std.proofs.Common.{◌≡◌, ◌≢◌, ◌-◌, ◌%◌, if◌then◌else◌, ◌∷◌, ◌++◌, length}
use Rattle.std.proofs.Common.{replicate, ap, ◌∙◌, arith}
use Rattle.std.proofs.lemmas.Bool.{ne_eqb}
use Rattle.aes_planes.specs.Fips197 as fips
use Rattle.aes_cipher.specs.Blocks.{padded}
use Rattle.cmac.specs.Cmac.{subkey_1, subkey_2, last_block}
use Rattle.cmac.proofs.examples.padding_rules.Goals as goal

pub returns-clause-zeros : goal.returns-clause-zeros
unfolding padded
returns-clause-zeros c s k small whole =
    let count : (16 - length s % 16) % 16 ≡ k = omega (arith, small, whole) in
    ap (λ n. s ++ replicate n 0) count

pub returns-clause-complete : goal.returns-clause-complete
unfolding last_block
returns-clause-complete c w rest whole = search (whole)

pub returns-clause-short : goal.returns-clause-short
unfolding last_block
returns-clause-short c w rest k sum =
    let short : length rest ≢ 16 = omega (arith, sum) in
    let count : 15 - length rest ≡ k = omega (arith, sum) in
    ap (λ b. if b then fips.add_round_key (subkey_1 w) rest
    else fips.add_round_key (subkey_2 w) (rest ++ 0x80 ∷ replicate (15 - length rest) 0))
    (ne_eqb (length rest) 16 short)
    ∙ ap (λ n. fips.add_round_key (subkey_2 w) (rest ++ 0x80 ∷ replicate n 0)) count
