-- The last block that has come is the last one of the message so far.
use Rattle.std.proofs.Common.{◌≡◌, ◌∙◌, ◌*◌, ◌-◌, ℕ, length, drop, take, ap, arith, sym}
use Rattle.std.proofs.Common.{length-drop}
use Rattle.std.proofs.lemmas.List.{take_all}
use Rattle.aes_planes.specs.Fips197.{cipher_with, add_round_key}
use Rattle.cmac.specs.Cmac.{before_last, cmac, last_block}
use Rattle.cmac.proofs.pieces.Message.tag_so_far.Goals as goal

pub returns : goal.returns
unfolding before_last cmac
returns g c s is =
    let w = g.C.RoundKeysUser.round_keys c.args.cipher.now in
    let chain = c.args.self.now.chain in
    let m : ℕ = before_last (length s) in
    let count : c.rest_length-rest_length.result ≡ chain.rest_length =
    c.rest_length-rest_length.ensures.same (omega (arith, is.chaining.rest_length)) in
    let rest : take c.rest_length-rest_length.result chain.rest
    ≡ take (length s - 16 * m) (drop (16 * m) s) =
    ap (λ n. take n chain.rest) count ∙ is.chaining.rest
    ∙ sym (take_all (length s - 16 * m) (drop (16 * m) s) (omega (arith, length-drop (16 * m) s))) in
    c.tag_at_end.ensures
    ∙ (λ t. cipher_with w (add_round_key (is.chaining.value t) (last_block w (rest t))))
