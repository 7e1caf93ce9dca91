-- Chains through strings that come in pieces.
use Rattle.std.proofs.Common.{◌≡◌, ℕ, ◌+◌, ◌*◌, ◌≤◌, List, ◌++◌, length, take, drop}
use Rattle.std.proofs.Common.{ap, sym, ◌∙◌, arith, append_assoc, length-append}
use Rattle.std.proofs.Common.{length-take}
use Rattle.std.proofs.lemmas.List.{drop-append-le, take-append-drop}
use Rattle.std.proofs.Math.Seq.{drop-append_seam}
use Rattle.cmac.specs.Chain.{chained, chained_through}
use Rattle.cmac.specs.Cmac.{before_last}
use Rattle.cmac.specs.Pieces.{IsChaining}
use Rattle.cmac.specs.declared.chain_in_pieces.ChainInPieces.{ChainInPieces}
use Rattle.cmac.proofs.Chains.{chained_first, through_first, through_on, through_whole}

-- a piece that the last block has room for leaves the value as it is
pub unfilled : (w : List (List ℕ)) (y s b after : List ℕ) (n : ℕ) (c : ChainInPieces)
    → IsChaining w y s c → n ≡ c.rest_length + length b → n ≤ 16
    → take n after ≡ take c.rest_length c.rest ++ b
    → IsChaining w y (s ++ b) record { rest_length = n; value = c.value; rest = after }
unfolding before_last
unfilled w y s b after n c is count few written =
    let m : ℕ = before_last (length s) in
    let long : length (s ++ b) ≡ length s + length b = length-append s b in
    let blocks : m ≡ before_last (length (s ++ b)) =
    omega (arith, long, few, count, is.rest_length) in
    let inside : 16 * m ≤ length s = omega arith in
    record {
      value = is.value ∙ sym (chained_first w y s b m inside) ∙ ap (chained w y (s ++ b)) blocks;
      rest_length = omega (arith, long, count, is.rest_length, blocks);
      rest = written ∙ ap (λ l. l ++ b) is.rest ∙ sym (drop-append-le (16 * m) s b inside)
          ∙ ap (λ k. drop (16 * k) (s ++ b)) blocks;
    }

-- a piece that fills the last block, then has k whole blocks, and then the bytes of a new last
-- block
pub filled : (w : List (List ℕ)) (y s b first whole last block after : List ℕ) (k : ℕ)
    (c : ChainInPieces) → IsChaining w y s c → b ≡ first ++ (whole ++ last)
    → block ≡ take c.rest_length c.rest ++ first → length block ≡ 16 → length whole ≡ 16 * k
    → 1 ≤ length last → length last ≤ 16 → take (length last) after ≡ last
    → IsChaining w y (s ++ b) record {
      rest_length = length last;
      value = chained_through w (chained_through w c.value block) whole;
      rest = after;
    }
unfolding before_last
filled w y s b first whole last block after k c is parts written fills blocks some few end =
    let m : ℕ = before_last (length s) in
    let a : List ℕ = take (16 * m) s in
    let r : List ℕ = drop (16 * m) s in
    let inside : 16 * m ≤ length s = omega arith in
    let a_long : length a ≡ 16 * m = omega (arith, length-take (16 * m) s) in
    let one : length (a ++ block) ≡ 16 * (m + 1) =
    omega (arith, length-append a block, a_long, fills) in
    let p : List ℕ = (a ++ block) ++ whole in
    let n : ℕ = m + 1 + k in
    let p_long : length p ≡ 16 * n = omega (arith, length-append (a ++ block) whole, one, blocks) in
    let begun : block ≡ r ++ first = written ∙ ap (λ l. l ++ first) is.rest in
    let joined : p ++ last ≡ s ++ b =
    append_assoc (a ++ block) whole last ∙ append_assoc a block (whole ++ last)
    ∙ ap (λ l. a ++ (l ++ (whole ++ last))) begun
    ∙ ap (λ l. a ++ l) (append_assoc r first (whole ++ last))
    ∙ sym (append_assoc a r (first ++ (whole ++ last)))
    ∙ (λ t. take-append-drop (16 * m) s t ++ sym parts t) in
    let long : length (s ++ b) ≡ 16 * n + length last =
    ap length (sym joined) ∙ length-append p last ∙ ap (λ l. l + length last) p_long in
    let count : n ≡ before_last (length (s ++ b)) = omega (arith, long, some, few) in
    record {
      value = ap (λ v. chained_through w (chained_through w v block) whole)
          (is.value ∙ sym (through_first w y s m inside))
          ∙ ap (λ v. chained_through w v whole) (through_on w y a block m a_long)
          ∙ through_on w y (a ++ block) whole (m + 1) one
          ∙ through_whole w y p n p_long
          ∙ sym (chained_first w y p last n (omega (arith, p_long)))
          ∙ (λ t. chained w y (joined t) (count t));
      rest_length = omega (arith, long, count);
      rest = end ∙ sym (ap (λ i. drop i (p ++ last)) (sym p_long) ∙ drop-append_seam p last)
          ∙ (λ t. drop (16 * count t) (joined t));
    }
