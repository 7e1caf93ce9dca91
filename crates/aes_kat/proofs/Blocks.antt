-- Lemmas on blocks that are written one after the other.
use Rattle.std.proofs.Common.{◌≡◌, ◌<◌, ◌≤◌, ◌+◌, ◌-◌, ℕ, List, [], ◌∷◌, ◌++◌, sym, ap, ◌∙◌, length}
use Rattle.std.proofs.Common.{take, drop, map, append_assoc, length-append, take-append-drop, arith}
use Rattle.std.specs.List.{flat_map, join_with_byte}
use Rattle.std.proofs.lemmas.List.{length-take-le}
use Rattle.std.proofs.Math.Seq.{take-append_seam}

-- elements, each followed by a separator, are the elements joined by it, and one more
flat_map-joined : (c : ℕ) (f : List ℕ → List ℕ) (x : List ℕ) (xs : List (List ℕ))
    → flat_map (λ y. f y ++ c ∷ []) (x ∷ xs) ≡ join_with_byte c (map f (x ∷ xs)) ++ c ∷ []
flat_map-joined c f x [] = append_assoc (f x) (c ∷ []) []
flat_map-joined c f x (y ∷ xs) =
    ap (λ zs. (f x ++ c ∷ []) ++ zs) (flat_map-joined c f y xs)
    ∙ append_assoc (f x) (c ∷ []) (join_with_byte c (map f (y ∷ xs)) ++ c ∷ [])
    ∙ sym (append_assoc (f x) (c ∷ join_with_byte c (map f (y ∷ xs))) (c ∷ []))

-- without the last separator, the elements with one behind each are joined by it
pub take_joined : (end c : ℕ) (out : List ℕ) (f : List ℕ → List ℕ) (xs : List (List ℕ))
    → 0 < length xs
    → end ≤ length out → take end out ≡ flat_map (λ y. f y ++ c ∷ []) xs
    → take (end - 1) out ≡ join_with_byte c (map f xs)
take_joined end c out f [] some within h = absurd (omega arith)
take_joined end c out f (x ∷ xs) some within h =
    let joined = join_with_byte c (map f (x ∷ xs)) in
    let whole : take end out ≡ joined ++ c ∷ [] =
    h ∙ flat_map-joined c f x xs in
    let long : end ≡ length joined + 1 =
    sym (length-take-le end out within) ∙ ap length whole ∙ length-append joined (c ∷ []) in
    let short : end - 1 ≡ length joined = omega (arith, long) in
    let parts : out ≡ joined ++ (c ∷ [] ++ drop end out) =
    sym (take-append-drop end out) ∙ ap (λ ys. ys ++ drop end out) whole
    ∙ append_assoc joined (c ∷ []) (drop end out) in
    ap (λ n. take n out) short ∙ ap (take (length joined)) parts
    ∙ take-append_seam joined (c ∷ [] ++ drop end out)
