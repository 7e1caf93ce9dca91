-- Chains over strings: piece by piece, and with zeros behind the last block.
use Rattle.std.proofs.Common.{◌≡◌, ℕ, zero, suc, ◌+◌, ◌-◌, ◌*◌, ◌/◌, ◌%◌, ◌<◌, ◌≤◌, List, ◌++◌}
use Rattle.std.proofs.Common.{length, take, drop, replicate, refl, ap, sym, ◌∙◌, arith}
use Rattle.std.proofs.Common.{append_assoc, length-append, length-drop, min, inl, inr}
use Rattle.std.proofs.lemmas.List.{take_all, take-append-drop}
use Rattle.std.proofs.lemmas.List.{append-nil, length-take-le}
use Rattle.std.proofs.lemmas.Bool.{cases_lt}
use Rattle.std.specs.List.{slice_range}
use Rattle.aes_planes.specs.Fips197.{cipher_with, add_round_key}
use Rattle.aes_cipher.specs.Blocks.{padded}
use Rattle.aes_cipher.proofs.Strings.{first_block, second_block, length-padded, padded_blocks}
use Rattle.aes_cipher.proofs.Strings.{last_padded}
use Rattle.cmac.specs.Chain.{block_at, chained, chained_through}

-- the chain through blocks of the first of two strings doesn't depend on the second
pub chained_first : (w : List (List ℕ)) (y a b : List ℕ) (i : ℕ) → 16 * i ≤ length a
    → chained w y (a ++ b) i ≡ chained w y a i
unfolding chained
chained_first w y a b zero inside = refl
chained_first w y a b (suc i) inside =
    (λ t. cipher_with w (add_round_key (chained_first w y a b i (omega (arith, inside)) t)
    (first_block a b i (omega (arith, inside)) t)))

-- the chain through two strings, the first of whole blocks: after its blocks come those of the
-- second
chained_on : (w : List (List ℕ)) (y a b : List ℕ) (k i : ℕ) → length a ≡ 16 * k
    → chained w y (a ++ b) (k + i) ≡ chained w (chained w y a k) b i
unfolding chained
chained_on w y a b k zero long =
    let start : k + 0 ≡ k = omega arith in
    ap (chained w y (a ++ b)) start ∙ chained_first w y a b k (omega (arith, long))
chained_on w y a b k (suc i) long =
    let more : k + suc i ≡ suc (k + i) = omega arith in
    ap (chained w y (a ++ b)) more
    ∙ (λ t. cipher_with w (add_round_key (chained_on w y a b k i long t)
    (second_block a b k i long t)))

-- ---- a chain through all of a string

-- the chain through a string of n whole blocks is that through n blocks of it
pub through_whole : (w : List (List ℕ)) (y s : List ℕ) (n : ℕ) → length s ≡ 16 * n
    → chained_through w y s ≡ chained w y s n
unfolding chained_through padded
through_whole w y s n long =
    let count : length (padded s) / 16 ≡ n = omega (arith, long, length-padded s) in
    ap (chained w y (padded s)) count
    ∙ chained_first w y s (replicate ((16 - length s % 16) % 16) 0) n (omega (arith, long))

-- the chain through the first n blocks, as a string, is that through n blocks of the whole
pub through_first : (w : List (List ℕ)) (y s : List ℕ) (n : ℕ) → 16 * n ≤ length s
    → chained_through w y (take (16 * n) s) ≡ chained w y s n
through_first w y s n inside =
    let t : List ℕ = take (16 * n) s in
    let long : length t ≡ 16 * n = length-take-le (16 * n) s inside in
    through_whole w y t n long
    ∙ sym (chained_first w y t (drop (16 * n) s) n (omega (arith, long)))
    ∙ ap (λ l. chained w y l n) (take-append-drop (16 * n) s)

-- the chain through two strings, of which the first has whole blocks, is that through both joined
pub through_on : (w : List (List ℕ)) (y a b : List ℕ) (k : ℕ) → length a ≡ 16 * k
    → chained_through w (chained_through w y a) b ≡ chained_through w y (a ++ b)
unfolding chained_through padded
through_on w y a b k long =
    let m : ℕ = (length b + 15) / 16 in
    let zeros : List ℕ = replicate ((16 - length b % 16) % 16) 0 in
    let fill : (16 - length b % 16) % 16 ≡ (16 - length (a ++ b) % 16) % 16 =
    omega (arith, long, length-append a b) in
    let count : length (padded (a ++ b)) / 16 ≡ k + m =
    omega (arith, long, length-append a b, length-padded (a ++ b)) in
    let whole : padded (a ++ b) ≡ a ++ padded b =
    ap (λ n. (a ++ b) ++ replicate n 0) (sym fill) ∙ append_assoc a b zeros in
    ap (λ v. chained w v (padded b) (length (padded b) / 16)) (through_whole w y a k long)
    ∙ ap (chained w (chained w y a k) (padded b)) (padded_blocks b)
    ∙ sym (chained_on w y a (padded b) k m long)
    ∙ (λ t. chained w y (sym whole t) (sym count t))

-- zeros behind the last block make no difference
pub through_padded : (w : List (List ℕ)) (y s : List ℕ)
    → chained_through w y (padded s) ≡ chained_through w y s
unfolding chained_through
through_padded w y s =
    through_whole w y (padded s) ((length s + 15) / 16) (length-padded s)
    ∙ ap (chained w y (padded s)) (sym (padded_blocks s))

-- a block of a string has no zeros behind it
whole_part : (s part : List ℕ) (i : ℕ) → part ≡ slice_range s (16 * i) (16 * i + 16)
    → 16 * i + 16 ≤ length s
    → part ++ replicate (16 - length part) 0 ≡ block_at (padded s) i
unfolding padded block_at
whole_part s part i is long =
    let zeros : List ℕ = replicate ((16 - length s % 16) % 16) 0 in
    let size : length part ≡ 16 * i + 16 - 16 * i =
    ap length is
    ∙ length-take-le (16 * i + 16 - 16 * i) (drop (16 * i) s)
    (omega (arith, long, length-drop (16 * i) s)) in
    let none : 16 - length part ≡ 0 = omega (arith, size) in
    ap (λ m. part ++ replicate m 0) none ∙ append-nil part ∙ is ∙ sym (first_block s zeros i long)

-- a block of a string, or what is left of it, with zeros behind it
pub part_padded : (s part : List ℕ) (i e : ℕ) → i < (length s + 15) / 16
    → e ≡ min (length s) (16 * i + 16) → part ≡ slice_range s (16 * i) e
    → part ++ replicate (16 - length part) 0 ≡ block_at (padded s) i
unfolding block_at
part_padded s part i e below end is =
    elim (cases_lt (length s) (16 * i + 16)) [
      | inl short ↦
          last_padded i s part (omega (arith, short)) (omega (arith, below))
          (is ∙ take_all (e - 16 * i) (drop (16 * i) s)
          (omega (arith, end, short, length-drop (16 * i) s)))
      | inr long ↦ whole_part s part i (is ∙ ap (slice_range s (16 * i)) (omega (arith, end, long))) long
    ]
