-- A piece that the last block has room for, and one that fills it and goes on behind it.
use Rattle.std.proofs.Common.{◌≡◌, ◌∙◌, ◌+◌, ◌-◌, ◌/◌, ◌≤◌, ◌++◌, ℕ, List, length, take, ap, arith, sym}
use Rattle.std.proofs.Common.{drop, length-drop, length-take, subst}
use Rattle.std.proofs.lemmas.List.{take_all, take-append-drop}
use Rattle.std.proofs.lemmas.Slice.{take-put_mid}
use Rattle.std.proofs.Math.Seq.{take-append_seam}
use Rattle.cmac.specs.Chain.{chained_through}
use Rattle.cmac.specs.Cmac.{before_last}
use Rattle.cmac.specs.Pieces.{IsChaining}
use Rattle.cmac.proofs.InPieces.{unfilled, filled}
use Rattle.cmac.proofs.chain_in_pieces.ChainInPieces.extend.Goals as goal
use borrow.Rule.Slice.PartMut.{post_of, put_mid, same_len_mid}

pub returns-then-bytes-rest_length : goal.returns-then-bytes-rest_length
unfolding before_last
returns-then-bytes-rest_length g c y s is =
    let w = g.C.RoundKeysUser.round_keys c.args.cipher.now in
    let b : List ℕ = c.args.bytes.now in
    let rest : List ℕ = c.args.self.now.rest in
    let f : ℕ = c.rest_length-rest_length.result in
    let count : f ≡ c.args.self.now.rest_length =
    c.rest_length-rest_length.ensures.same (omega (arith, is.rest_length)) in
    let copied : List ℕ = c.copy_from_slice.new.self in
    let same : copied ≡ b = c.copy_from_slice.ensures.after in
    unfilled w y s b (put_mid f (f + length b - f) rest copied) (f + length b) c.args.self.now is
    (omega (arith, count)) (omega (arith, c.if-bytes-rest_length.true, c.rest_length-rest_length.ensures.few))
    (take-put_mid f (f + length b - f) rest copied (f + length b) (omega (arith, ap length same))
    (omega arith)
    ∙ (λ t. take (count t) rest ++ same t))

pub returns : goal.returns
unfolding before_last
returns g c y s is =
    let w = g.C.RoundKeysUser.round_keys c.args.cipher.now in
    let b : List ℕ = c.args.bytes.now in
    let rest : List ℕ = c.args.self.now.rest in
    let f : ℕ = c.rest_length-rest_length.result in
    let count : f ≡ c.args.self.now.rest_length =
    c.rest_length-rest_length.ensures.same (omega (arith, is.rest_length)) in
    let few : f ≤ 16 = c.rest_length-rest_length.ensures.few in
    let first : List ℕ = c.split_at.result.0.now in
    let whole : List ℕ = c.split_at-2.result.0.now in
    let last : List ℕ = c.split_at-2.result.1.now in
    let copied : List ℕ = c.copy_from_slice-2.new.self in
    let block : List ℕ = put_mid f (16 - f) rest copied in
    let same : copied ≡ first = c.copy_from_slice-2.ensures.after in
    let sized : length block ≡ length rest =
    same_len_mid f (16 - f) rest copied
    (omega (
      arith,
      ap length same,
      c.split_at.ensures.front_len,
      length-take (16 - f) (drop f rest),
      length-drop f rest,
    )) in
    let long : length block ≡ 16 = omega (arith, sized) in
    let written : block ≡ take c.args.self.now.rest_length rest ++ first =
    sym (take_all 16 block (omega (arith, long)))
    ∙ take-put_mid f (16 - f) rest copied 16
    (omega (arith, few, ap length same, c.split_at.ensures.front_len)) (omega (arith, few))
    ∙ (λ t. take (count t) rest ++ same t) in
    let parts : b ≡ first ++ (whole ++ last) =
    sym ((λ t. c.split_at.ensures.front t ++ ((λ u. c.split_at-2.ensures.front u
    ++ c.split_at-2.ensures.back u)
    ∙ take-append-drop _ c.split_at.result.1.now ∙ c.split_at.ensures.back) t)
    ∙ take-append-drop (16 - f) b) in
    let copied_last : List ℕ = c.copy_from_slice-3.new.self in
    let same_last : copied_last ≡ last = c.copy_from_slice-3.ensures.after in
    let tail : List ℕ = post_of 0 (length last) block in
    let after : List ℕ = copied_last ++ tail in
    let value : c.chain-2.new.value
    ≡ chained_through w (chained_through w c.args.self.now.value block) whole =
    c.chain-2.ensures ∙ ap (λ v. chained_through w v whole) c.chain.ensures in
    let P : List ℕ → Type 0 = λ v. IsChaining w y (s ++ b) record {
      rest_length = length last;
      value = v;
      rest = after;
    } in
    subst P (sym value)
    (filled w y s b first whole last block after
    ((length c.split_at.result.1.now - 1) / 16) c.args.self.now is parts written long
    (omega (arith, c.split_at-2.ensures.front_len))
    (omega (arith, c.split_at-2.ensures.back_len, c.split_at.ensures.back_len, c.if-bytes-rest_length.false))
    (omega (arith, c.split_at-2.ensures.back_len))
    (sym (ap (λ l. take (length l) after) same_last)
    ∙ take-append_seam copied_last tail ∙ same_last))
