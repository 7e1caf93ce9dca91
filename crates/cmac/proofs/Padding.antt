-- The last block of a message, written over zeros.
use Rattle.std.proofs.Common.{◌≡◌, ℕ, suc, ◌-◌, ◌<◌, List, ◌∷◌, ◌++◌, length, drop, replicate, set}
use Rattle.std.proofs.Common.{ap, ◌∙◌, arith}
use Rattle.std.proofs.lemmas.List.{drop-replicate, append-nil}
use Rattle.std.proofs.Math.Seq.{set-append_seam}

-- sixteen bytes leave none of the zeros
pub complete : (rest : List ℕ) → length rest ≡ 16
    → rest ++ drop (length rest) (replicate 16 0) ≡ rest
complete rest whole =
    ap (λ tail. rest ++ tail) (drop-replicate (length rest) 16 0
    ∙ ap (λ n. replicate (16 - n) 0) whole) ∙ append-nil rest

-- fewer leave zeros, and the first of them becomes a bit 1 with zeros behind it
pub padded : (rest : List ℕ) → length rest < 16
    → set (rest ++ drop (length rest) (replicate 16 0)) (length rest) 0x80
    ≡ rest ++ 0x80 ∷ replicate (15 - length rest) 0
padded rest short =
    let n = length rest in
    let one_more : 16 - n ≡ suc (15 - n) = omega (arith, short) in
    let zeros : List ℕ = replicate (15 - n) 0 in
    let left : drop n (replicate 16 0) ≡ 0 ∷ zeros =
    drop-replicate n 16 0 ∙ ap (λ m. replicate m 0) one_more in
    ap (λ tail. set (rest ++ tail) n 0x80) left ∙ set-append_seam rest 0 zeros 0x80
