-- A key with its padding and the semiblock before it: it passes the comparisons, and the key comes
-- out of it.
use Rattle.std.proofs.Common.{◌≡◌, ℕ, zero, suc, ◌+◌, ◌-◌, ◌*◌, ◌^◌, ◌<◌, ◌≤◌, List, [], ◌∷◌, ◌++◌}
use Rattle.std.proofs.Common.{length, get_or, take, drop, replicate, refl, ap, sym, inl, inr, ◌∙◌}
use Rattle.std.proofs.Common.{arith}
use Rattle.std.proofs.lemmas.Bool.{cases_lt}
use Rattle.std.proofs.lemmas.List.{append-nil, append_assoc, drop_at, get_or-replicate, get_or_past}
use Rattle.std.proofs.lemmas.List.{get_or_push, length-append, length-drop, length-replicate}
use Rattle.std.proofs.lemmas.List.{length-take, take_all, take_at}
use Rattle.std.proofs.lemmas.List.Elements.{All-cons, All-nil, All-push}
use Rattle.std.proofs.lemmas.Nat.{from_be_bytes-to_be_bytes_4}
use Rattle.std.proofs.Math.Seq.{take-add}
use Rattle.std.specs.Int.{w32, w128, to_be_bytes}
use Rattle.std.specs.List.{All, concat, slice_range}
use Rattle.aes_planes.specs.Fips197.{IsBytes}
use Rattle.aes_cipher.proofs.BlockNumbers.{number_block}
use Rattle.key_wrap.specs.KeyWrap.{IsSemiblock}
use Rattle.key_wrap.specs.Padded.{semiblock_count, headed, heading, key_in, length_in, padded, padded_check}
use Rattle.key_wrap.specs.Padded.{semiblocks, IsPadded}
use Rattle.aes_planes.proofs.Standard.States.{append_bytes, drop_bytes, take_bytes}
use Rattle.key_wrap.proofs.Padding.{semiblock_is}

-- ---- strings of bytes as semiblocks

-- n semiblocks of a string are n
length-semiblocks : (s : List ℕ) (n : ℕ) → length (semiblocks s n) ≡ n
unfolding semiblocks
length-semiblocks s zero = refl
length-semiblocks s (suc n) =
    length-append (semiblocks s n) (slice_range s (8 * n) (8 * n + 8) ∷ [])
    ∙ omega (arith, length-semiblocks s n)

-- joined with one more at the end, strings are joined and then followed by it
concat_more : (xs : List (List ℕ)) (y : List ℕ) → concat (xs ++ y ∷ []) ≡ concat xs ++ y
concat_more [] y = append-nil y
concat_more (x ∷ xs) y = ap (λ l. x ++ l) (concat_more xs y) ∙ sym (append_assoc x (concat xs) y)

-- the semiblocks of a string, joined, are the string
semiblocks_joined : (s : List ℕ) (n : ℕ) → concat (semiblocks s n) ≡ take (8 * n) s
unfolding semiblocks
semiblocks_joined s zero = refl
semiblocks_joined s (suc n) =
    let size : 8 * n + 8 - 8 * n ≡ 8 = omega arith in
    let more : 8 * n + 8 ≡ 8 * suc n = omega arith in
    concat_more (semiblocks s n) (slice_range s (8 * n) (8 * n + 8))
    ∙ (λ j. semiblocks_joined s n j ++ take (size j) (drop (8 * n) s)) ∙ sym (take-add (8 * n) 8 s)
    ∙ ap (λ m. take m s) more

-- each semiblock of a string is eight bytes
semiblocks_long : (s : List ℕ) (n : ℕ) → IsBytes s → 8 * n ≤ length s
    → All IsSemiblock (semiblocks s n)
unfolding semiblocks
semiblocks_long s zero small fits = All-nil IsSemiblock
semiblocks_long s (suc n) small fits =
    let size : ℕ = 8 * n + 8 - 8 * n in
    All-push IsSemiblock (semiblocks s n) (slice_range s (8 * n) (8 * n + 8))
    (semiblocks_long s n small (omega (arith, fits))) (
      omega (arith, length-take size (drop (8 * n) s), length-drop (8 * n) s, fits),
      take_bytes size (drop (8 * n) s) (drop_bytes (8 * n) s small),
    )

-- ---- a padded key

-- zeros are bytes, so padding keeps a string one of bytes
zeros_are_bytes : (n : ℕ) → IsBytes (replicate n 0)
zeros_are_bytes n i = elim (cases_lt i n) as (λ _. get_or (replicate n 0) i 0 < 2 ^ 8) [
  | inl lt ↦ omega (arith, get_or-replicate {A = ℕ} n i 0 0 lt)
  | inr le ↦ omega (
    arith,
    get_or_past {X = ℕ} (replicate n 0) i 0
        (omega (arith, le, length-replicate {A = ℕ} n 0)),
  )
]

-- a padded key fills its semiblocks
length-padded : (key : List ℕ) → length (padded key) ≡ 8 * semiblock_count (length key)
unfolding padded semiblock_count
length-padded key =
    let n : ℕ = 8 * semiblock_count (length key) - length key in
    length-append key (replicate n 0) ∙ omega (arith, length-replicate {A = ℕ} n 0)

-- the semiblock before those of a key makes one more
pub length-headed : (key : List ℕ) → length (headed key) ≡ semiblock_count (length key) + 1
unfolding headed
length-headed key = omega (arith, length-semiblocks (padded key) (semiblock_count (length key)))

-- the semiblock before a key is eight bytes
heading_semiblock : (bytes : ℕ) → IsSemiblock (heading bytes)
unfolding heading
heading_semiblock bytes = (
  refl,
  append_bytes padded_check (to_be_bytes w32 bytes)
      (drop_bytes 12 (to_be_bytes w128 0xa65959a6) (number_block 0xa65959a6).1)
      (drop_bytes 12 (to_be_bytes w128 bytes) (number_block bytes).1),
)

-- S consists of semiblocks, which is what undoing the steps of W asks for
pub headed_semiblocks : (key : List ℕ) → IsBytes key → All IsSemiblock (headed key)
unfolding headed heading padded
headed_semiblocks key small =
    let n : ℕ = semiblock_count (length key) in
    All-cons IsSemiblock (heading (length key)) (semiblocks (padded key) n)
    (heading_semiblock (length key))
    (semiblocks_long (padded key) n (append_bytes key _ small (zeros_are_bytes (8 * n - length key)))
    (omega (arith, length-padded key)))

-- the last semiblock of a string stands where the comparisons look for the padding
last_semiblock : (s : List ℕ) (n k : ℕ) → n ≡ suc k
    → get_or (semiblocks s n) k [] ≡ slice_range s (8 * k) (8 * k + 8)
unfolding semiblocks
last_semiblock s n k is =
    ap (λ m. get_or (semiblocks s m) k []) is
    ∙ get_or_push (semiblocks s k) (slice_range s (8 * k) (8 * k + 8)) [] k (length-semiblocks s k)

-- S of a key passes the comparisons, and has the key: with the steps undone, so has what is
-- unwrapped
pub headed_found : (key : List ℕ) → 1 ≤ length key → length key < 2 ^ 32
    → IsPadded (headed key) × (key_in (headed key) ≡ key)
unfolding headed heading length_in key_in semiblock_count padded
headed_found key some few =
    let s : List (List ℕ) = headed key in
    let n : ℕ = semiblock_count (length key) in
    let k : ℕ = n - 1 in
    let z : ℕ = 8 * k + 8 - length key in
    let plen : length_in s ≡ length key = from_be_bytes-to_be_bytes_4 (length key) few in
    let count : length s - 1 ≡ n = omega (arith, length-headed key) in
    let at : length s - 1 ≡ suc k = omega (arith, length-headed key, some) in
    let padding : 8 * (length s - 1) - length_in s ≡ z = omega (arith, count, plen, some) in
    let front : List ℕ = take 8 (drop (8 * k) key) in
    let last : get_or s (length s - 1) [] ≡ front ++ replicate z 0 =
    ap (λ m. get_or s m []) at ∙ last_semiblock (padded key) n k (omega (arith, some))
    ∙ sym (semiblock_is key k (omega (arith, some))) in
    let zeros : List ℕ = replicate (8 * n - length key) 0 in (
      record {
        check = refl;
        least = omega (arith, count, plen);
        most = omega (arith, count, plen);
        zeros = (λ j. drop (8 - padding j) (last j))
            ∙ drop_at front (replicate z 0) (8 - z)
            (omega (arith, length-take 8 (drop (8 * k) key), length-drop (8 * k) key, some))
            ∙ ap (λ m. replicate m 0) (sym padding);
      },
      (λ j. take (plen j)
          ((semiblocks_joined (padded key) n
          ∙ take_all (8 * n) (padded key) (omega (arith, length-padded key))) j))
          ∙ take_at key zeros (length key) refl,
    )
