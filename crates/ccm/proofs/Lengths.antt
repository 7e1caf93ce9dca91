-- The length of additional data, and the data behind it.
use Rattle.std.proofs.Common.{◌≡◌, ◌⊎◌, ℕ, ◌+◌, ◌-◌, ◌%◌, ◌^◌, ◌<◌, ◌≤◌, ltb, min}
use Rattle.std.proofs.Common.{if◌then◌else◌, List, [], ◌∷◌, ◌++◌, length, take, drop, replicate}
use Rattle.std.proofs.Common.{refl, ap, sym, ◌∙◌, arith, inl, inr, append_assoc, length-append, length-drop}
use Rattle.std.proofs.lemmas.Bool.{cases_lt, le-ltb, lt-ltb, ne_eqb}
use Rattle.std.proofs.Math.Seq.{drop-append_seam, take-append_seam}
use borrow.Rule.Slice.PartMut.{put_mid}
use Rattle.std.proofs.lemmas.List.{append-nil, drop-replicate, length-take-le, take-append-drop}
use Rattle.aes_planes.specs.BigEndian.{bytes}
use Rattle.aes_cipher.specs.Blocks.{padded}
use Rattle.cmac.specs.Chain.{chained, chained_through}
use Rattle.cmac.proofs.Chains.{through_on, through_padded, through_whole}
use Rattle.ccm.specs.Ccm.{encoded_length}

-- ---- in two, six or ten bytes

-- a length that is not 0 is encoded in two, six or ten bytes
encoded_if_some : (a : ℕ) → 0 < a
    → encoded_length a ≡ (if ltb a (2 ^ 16 - 2 ^ 8) then bytes 2 a else
    if ltb a (2 ^ 32) then 0xff ∷ 0xfe ∷ bytes 4 a else 0xff ∷ 0xff ∷ bytes 8 a)
unfolding encoded_length
encoded_if_some a some =
    ap (λ b. if b then [] else
    if ltb a (2 ^ 16 - 2 ^ 8) then bytes 2 a else
    if ltb a (2 ^ 32) then 0xff ∷ 0xfe ∷ bytes 4 a else 0xff ∷ 0xff ∷ bytes 8 a)
    (ne_eqb a 0 (λ none. omega (arith, some, none)))

-- a length below 65280 is encoded in two bytes
pub encoded_in_two : (a : ℕ) → 0 < a → a < 65280 → encoded_length a ≡ bytes 2 a
encoded_in_two a some small =
    encoded_if_some a some
    ∙ ap (λ b. if b then bytes 2 a else
    if ltb a (2 ^ 32) then 0xff ∷ 0xfe ∷ bytes 4 a else 0xff ∷ 0xff ∷ bytes 8 a)
    (lt-ltb a 65280 small)

-- a length from 65280 on is encoded in six or ten bytes
encoded_in_more : (a : ℕ) → 65280 ≤ a
    → encoded_length a
    ≡ (if ltb a (2 ^ 32) then 0xff ∷ 0xfe ∷ bytes 4 a else 0xff ∷ 0xff ∷ bytes 8 a)
encoded_in_more a large =
    encoded_if_some a (omega (arith, large))
    ∙ ap (λ b. if b then bytes 2 a else
    if ltb a (2 ^ 32) then 0xff ∷ 0xfe ∷ bytes 4 a else 0xff ∷ 0xff ∷ bytes 8 a)
    (le-ltb a 65280 large)

-- a length from 65280 on and below 2 ^ 32 is encoded in six bytes
pub encoded_in_six : (a : ℕ) → 65280 ≤ a → a < 2 ^ 32 → encoded_length a ≡ 0xff ∷ 0xfe ∷ bytes 4 a
encoded_in_six a large small =
    encoded_in_more a large
    ∙ ap (λ b. if b then 0xff ∷ 0xfe ∷ bytes 4 a else 0xff ∷ 0xff ∷ bytes 8 a)
    (lt-ltb a (2 ^ 32) small)

-- a length from 2 ^ 32 on is encoded in ten bytes
pub encoded_in_ten : (a : ℕ) → 2 ^ 32 ≤ a → encoded_length a ≡ 0xff ∷ 0xff ∷ bytes 8 a
encoded_in_ten a large =
    encoded_in_more a (omega (arith, large))
    ∙ ap (λ b. if b then 0xff ∷ 0xfe ∷ bytes 4 a else 0xff ∷ 0xff ∷ bytes 8 a)
    (le-ltb a (2 ^ 32) large)

-- ---- the chain through the length and the data

-- a chain through nothing stays where it is
through_nothing : (w : List (List ℕ)) (y s : List ℕ) → length s ≡ 0 → chained_through w y s ≡ y
unfolding chained
through_nothing w y s none = through_whole w y s 0 none

-- a chain through additional data of no bytes stays where it is, since no length is written
pub no_data : (w : List (List ℕ)) (y a : List ℕ) → length a ≡ 0
    → y ≡ chained_through w y (encoded_length (length a) ++ a)
unfolding encoded_length
no_data w y a none =
    sym (through_nothing w y (encoded_length (length a) ++ a)
    (length-append (encoded_length (length a)) a
    ∙ ap (λ n. length (encoded_length n) + n) none))

-- a chain through a block, and then through the rest, of which there is none if the block is not
-- filled
through_rest : (w : List (List ℕ)) (y x r : List ℕ) → (length x ≡ 16) ⊎ (length r ≡ 0)
    → chained_through w (chained_through w y x) r ≡ chained_through w y (x ++ r)
through_rest w y x r (inl filled) = through_on w y x r 1 filled
through_rest w y x [] (inr none) =
    through_nothing w (chained_through w y x) [] refl
    ∙ ap (chained_through w y) (sym (append-nil x))
through_rest w y x (b ∷ r) (inr none) = absurd (omega (arith, none))

-- the first data, written behind a length into a block that has zeros there
pub filled_block : (e a block first : List ℕ) (s l m : ℕ) → s ≡ length e
    → block ≡ e ++ replicate (16 - s) 0 → first ≡ take m a → l ≡ m
    → put_mid s (s + l - s) block first ≡ (e ++ take m a) ++ replicate (16 - (length e + m)) 0
filled_block e a block first s l m size is first_is count =
    let zeros : List ℕ = replicate (16 - s) 0 in
    let front : take s block ≡ e =
    ap (take s) is ∙ ap (λ k. take k (e ++ zeros)) size ∙ take-append_seam e zeros in
    let behind : drop s block ≡ zeros =
    ap (drop s) is ∙ ap (λ k. drop k (e ++ zeros)) size ∙ drop-append_seam e zeros in
    let fewer : 16 - s - (s + l - s) ≡ 16 - (length e + m) = omega (arith, size, count) in
    let rest : drop (s + l - s) (drop s block) ≡ replicate (16 - (length e + m)) 0 =
    ap (drop (s + l - s)) behind ∙ drop-replicate (s + l - s) (16 - s) 0
    ∙ ap (λ k. replicate k 0) fewer in
    (λ t. front t ++ (first_is t ++ rest t))
    ∙ sym (append_assoc e (take m a) (replicate (16 - (length e + m)) 0))

-- a length and the first data in a block with zeros behind them, and then the rest
pub first_and_rest : (w : List (List ℕ)) (y e a block : List ℕ) (m : ℕ) → 0 < length e
    → length e ≤ 16 → m ≡ min (length a) (16 - length e)
    → block ≡ (e ++ take m a) ++ replicate (16 - (length e + m)) 0
    → chained_through w (chained_through w y block) (drop m a) ≡ chained_through w y (e ++ a)
unfolding padded
first_and_rest w y e a block m some few least is =
    let x : List ℕ = e ++ take m a in
    let size : length x ≡ length e + m =
    length-append e (take m a)
    ∙ ap (λ n. length e + n) (length-take-le m a (omega (arith, least))) in
    let fill : 16 - (length e + m) ≡ (16 - length x % 16) % 16 =
    omega (arith, size, least, some, few) in
    let one : block ≡ padded x = is ∙ ap (λ n. x ++ replicate n 0) fill in
    let left : length (drop m a) ≡ length a - m = length-drop m a in
    let end : (length x ≡ 16) ⊎ (length (drop m a) ≡ 0) =
    elim (cases_lt (length a) (16 - length e)) [
      | inl all ↦ inr (omega (arith, left, all, least))
      | inr more ↦ inl (omega (arith, size, more, least, few))
    ] in
    ap (λ v. chained_through w v (drop m a)) (ap (chained_through w y) one ∙ through_padded w y x)
    ∙ through_rest w y x (drop m a) end
    ∙ ap (chained_through w y) (append_assoc e (take m a) (drop m a)
    ∙ ap (λ l. e ++ l) (take-append-drop m a))
