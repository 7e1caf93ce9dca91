use Rattle.std.proofs.Common.{◌∙◌, ◌++◌, ◌-◌, ◌∷◌, ◌==◌, if◌then◌else◌, ap, sym, arith, drop}
use Rattle.std.proofs.Common.{length, replicate, set}
use Rattle.std.proofs.lemmas.Bool.{ne_eqb}
use Rattle.aes_planes.specs.Fips197 as fips
use Rattle.cmac.specs.Cmac.{last_block, subkey_1, subkey_2}
use Rattle.cmac.proofs.Padding.{complete, padded}
use Rattle.cmac.proofs.tags.last_block.Goals as goal

pub returns-then-rest-eq16 : goal.returns-then-rest-eq16
unfolding last_block
returns-then-rest-eq16 g c =
    let w = g.C.RoundKeysUser.round_keys c.args.cipher.now in
    let rest = c.args.rest.now in
    let padding = fips.add_round_key (subkey_2 w) (rest ++ 0x80 ∷ replicate (15 - length rest) 0) in
    c.sum_of_blocks.ensures
    ∙ ap (λ copied. fips.add_round_key c.subkeys.result.0
    (copied ++ drop (length rest) (replicate 16 0)))
    c.copy_from_slice.ensures.after
    ∙ ap (fips.add_round_key c.subkeys.result.0) (complete rest c.if-rest-eq16.true)
    ∙ ap (λ k. fips.add_round_key k rest) c.subkeys.ensures.first
    ∙ sym (ap (λ n. if n == 16 then fips.add_round_key (subkey_1 w) rest else padding)
    c.if-rest-eq16.true)

pub returns-else-rest-eq16 : goal.returns-else-rest-eq16
unfolding last_block
returns-else-rest-eq16 g c =
    let w = g.C.RoundKeysUser.round_keys c.args.cipher.now in
    let rest = c.args.rest.now in
    let padding = rest ++ 0x80 ∷ replicate (15 - length rest) 0 in
    c.sum_of_blocks-else-rest-eq16.ensures
    ∙ ap (λ copied. fips.add_round_key c.subkeys.result.1
    (set (copied ++ drop (length rest) (replicate 16 0)) (length rest) 0x80))
    c.copy_from_slice.ensures.after
    ∙ ap (fips.add_round_key c.subkeys.result.1)
    (padded rest (omega (arith, c.requires, c.if-rest-eq16.false)))
    ∙ ap (λ k. fips.add_round_key k padding) c.subkeys.ensures.second
    ∙ sym (ap (λ b. if b then fips.add_round_key (subkey_1 w) rest
    else fips.add_round_key (subkey_2 w) padding)
    (ne_eqb (length rest) 16 c.if-rest-eq16.false))
