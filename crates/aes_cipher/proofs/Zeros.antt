-- Elements that are written over.
use Rattle.std.proofs.Common.{◌≡◌, ℕ, ◌+◌, ◌<◌, Bool, false, List, [], ◌∷◌, length, set, replicate}
use Rattle.std.proofs.Common.{drop, ◌++◌, append_assoc, append-nil, sym, ap, ◌∙◌, arith}
use Rattle.std.proofs.lemmas.List.{set_at, drop_more, drop_all, replicate_more, length-replicate}
use Rattle.std.proofs.lemmas.List.{ext_get_or, get_or-replicate}
use Rattle.aes_planes.specs.Bits.{Places}

-- one more element is written over by v
pub overwritten_more : {X : Type 0} (n : ℕ) (v : X) (d : List X) → n < length d
    → set (replicate n v ++ drop n d) n v
    ≡ replicate (n + 1) v ++ drop (n + 1) d
overwritten_more n v d h =
    ap (λ l. set (replicate n v ++ l) n v) (drop_more d n v h)
    ∙ set_at (replicate n v) _ _ v n (length-replicate n v)
    ∙ sym (append_assoc (replicate n v) (v ∷ []) _)
    ∙ ap (λ l. l ++ drop (n + 1) d) (replicate_more n v)

-- every element is written over by v
pub overwritten_whole : {X : Type 0} (i n : ℕ) (v : X) (d xs : List X) → i ≡ n → length d ≡ n
    → xs ≡ replicate i v
    ++ drop i d → xs ≡ replicate n v
overwritten_whole i n v d xs all long h =
    h ∙ ap (λ l. replicate i v ++ l) (drop_all i d (omega arith)) ∙ append-nil (replicate i v)
    ∙ ap (λ k. replicate k v) all

-- n bits that are all 0
pub bits_of_zero : (n : ℕ) (xs : List Bool) → length xs ≡ n → Places n xs (λ i. false)
    → xs ≡ replicate n false
bits_of_zero n xs l p =
    ext_get_or false xs (replicate n false) (l ∙ sym (length-replicate n false))
    (λ i h. let k : i < n = omega (arith, l) in p i k ∙ sym (get_or-replicate n i false false k))
