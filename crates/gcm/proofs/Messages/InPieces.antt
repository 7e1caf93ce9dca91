-- GHASH and GCTR of strings that come in pieces.
use Rattle.std.proofs.Common.{◌≡◌, ℕ, suc, ◌+◌, ◌-◌, ◌*◌, ◌/◌, ◌%◌, ◌<◌, List, [], ◌++◌, length}
use Rattle.std.proofs.Common.{take, drop, inl, inr, subst, replicate, bit_xor, refl, ap, sym, ◌∙◌}
use Rattle.std.proofs.Common.{arith, length-append, length-drop, length-take, append_assoc}
use Rattle.std.proofs.lemmas.List.{drop-append-le, take_all, take-append-drop}
use Rattle.std.proofs.Math.ListN.{drop_of_length-le}
use Rattle.std.specs.Int.{w64, w128, to_be_bytes, from_be_bytes}
use Rattle.aes_ctr.specs.CounterMode.{plus_stream}
use Rattle.aes_ctr.proofs.Sums.{plus-append, length-plus}
use Rattle.aes_cipher.specs.Blocks.{padded}
use Rattle.gcm.specs.Gcm.{product, block_at, hashed, inc32, gctr, gctr_byte, bit_length}
use Rattle.gcm.specs.Gcm.{hash_subkey, pre_counter, text, hash, IsHashedLength, IsTextLength}
use Rattle.gcm.specs.Pieces.{hashed_padded, IsHashing, IsAt}
use Rattle.gcm.specs.declared.message_state.Message.{Message}
use Rattle.gcm.specs.declared.message_state.Phase.{Phase}
use Rattle.gcm.proofs.Messages.Counting.{from_second}
use Rattle.aes_cipher.proofs.Strings.{length-padded}
use Rattle.gcm.proofs.Messages.Hashing.{hashed_first, hashed_on, hashed_whole, ghash_pieces}

-- GHASH after a piece that doesn't fill the block: the value stays, and the block has more bytes
pub unfilled : (h y v : ℕ) (s rest b after : List ℕ) → IsHashing h y s v rest
    → length s % 16 + length b < 16
    → take (length s % 16 + length b) after ≡ take (length s % 16) rest ++ b
    → IsHashing h y (s ++ b) v after
unfilled h y v s rest b after is few written =
    let n : ℕ = length s / 16 in
    let long : length (s ++ b) ≡ length s + length b = length-append s b in
    let blocks : length s / 16 ≡ length (s ++ b) / 16 = omega (arith, long, few) in
    let places : length (s ++ b) % 16 ≡ length s % 16 + length b = omega (arith, long, few) in
    record {
      value = is.value ∙ sym (hashed_first h y s b n (omega arith))
          ∙ ap (hashed h y (s ++ b)) blocks;
      rest = ap (λ k. take k after) places ∙ written ∙ ap (λ l. l ++ b) is.rest
          ∙ sym (drop-append-le (16 * n) s b (omega arith))
          ∙ ap (λ k. drop (16 * k) (s ++ b)) blocks;
    }

-- GHASH after a piece that fills the block exactly: the block is hashed
pub filled : (h y v : ℕ) (s rest b block after : List ℕ) → IsHashing h y s v rest
    → length s % 16 + length b ≡ 16
    → block ≡ take (length s % 16) rest ++ b
    → IsHashing h y (s ++ b) (product (bit_xor v (from_be_bytes w128 block)) h) after
unfolding hashed block_at
filled h y v s rest b block after is whole written =
    let n : ℕ = length s / 16 in
    let long : length (s ++ b) ≡ length s + length b = length-append s b in
    let blocks : suc n ≡ length (s ++ b) / 16 = omega (arith, long, whole) in
    let places : length (s ++ b) % 16 ≡ 0 = omega (arith, long, whole) in
    let last : block ≡ take (16 * n + 16 - 16 * n) (drop (16 * n) (s ++ b)) =
    written ∙ ap (λ l. l ++ b) is.rest ∙ sym (drop-append-le (16 * n) s b (omega arith))
    ∙ sym (take_all (16 * n + 16 - 16 * n) (drop (16 * n) (s ++ b))
    (omega (arith, length-drop (16 * n) (s ++ b), long, whole))) in
    record {
      value = (λ t. product
          (bit_xor ((is.value ∙ sym (hashed_first h y s b n (omega arith))) t)
          (from_be_bytes w128 (last t))) h)
          ∙ ap (hashed h y (s ++ b)) blocks;
      rest = ap (λ k. take k after) places
          ∙ sym (drop_of_length-le (s ++ b) {i = 16 * (length (s ++ b) / 16)}
          (omega (arith, places)));
    }

-- after a string of whole blocks, a piece of whole blocks is hashed, and no byte is left in the
-- block
pub whole_blocks : (h y v : ℕ) (s rest b after : List ℕ) → IsHashing h y s v rest
    → length s % 16 ≡ 0
    → length b % 16 ≡ 0
    → IsHashing h y (s ++ b) (hashed h v (padded b) (length (padded b) / 16)) after
whole_blocks h y v s rest b after is before whole =
    let n : ℕ = length s / 16 in
    let m : ℕ = length b / 16 in
    let long : length (s ++ b) ≡ length s + length b = length-append s b in
    let blocks : n + m ≡ length (s ++ b) / 16 = omega (arith, long, before, whole) in
    let places : length (s ++ b) % 16 ≡ 0 = omega (arith, long, before, whole) in
    record {
      value = sym (hashed_whole h v (hashed h v b m) m b refl refl (omega (arith, whole)))
          ∙ ap (λ z. hashed h z b m) is.value ∙ sym (hashed_on h y s b n m (omega (arith, before)))
          ∙ ap (hashed h y (s ++ b)) blocks;
      rest = ap (λ k. take k after) places
          ∙ sym (drop_of_length-le (s ++ b) {i = 16 * (length (s ++ b) / 16)}
          (omega (arith, places)));
    }

-- a piece that is cut twice: its parts, joined, are the piece
pub parts_joined : (n m : ℕ) (b first others whole last : List ℕ) → first ≡ take n b
    → others ≡ drop n b → whole ≡ take m others → last ≡ drop m others
    → b ≡ first ++ (whole ++ last)
parts_joined n m b first others whole last first_is others_is whole_is last_is =
    sym ((λ t. first_is t ++ ((λ u. whole_is u ++ last_is u)
    ∙ take-append-drop m others ∙ others_is) t)
    ∙ take-append-drop n b)

-- GHASH after a piece that fills the block, then has whole blocks, and then some bytes of a block
pub three_parts : (h y v : ℕ) (s rest b first whole last block after : List ℕ)
    → IsHashing h y s v rest
    → b ≡ first ++ (whole ++ last) → length s % 16 + length first ≡ 16
    → block ≡ take (length s % 16) rest ++ first
    → length whole % 16 ≡ 0 → length last < 16 → take (length last) after ≡ last
    → IsHashing h y (s ++ b)
    (hashed h (product (bit_xor v (from_be_bytes w128 block)) h) (padded whole)
    (length (padded whole) / 16)) after
three_parts h y v s rest b first whole last block after is parts fills written blocks few end =
    let u : ℕ = product (bit_xor v (from_be_bytes w128 block)) h in
    let z : ℕ = hashed h u (padded whole) (length (padded whole) / 16) in
    let one : length (s ++ first) % 16 ≡ 0 = omega (arith, length-append s first, fills) in
    let two : length ((s ++ first) ++ whole) % 16 ≡ 0 =
    omega (arith, length-append (s ++ first) whole, one, blocks) in
    let joined : ((s ++ first) ++ whole) ++ last ≡ s ++ b =
    append_assoc (s ++ first) whole last ∙ append_assoc s first (whole ++ last)
    ∙ ap (λ l. s ++ l) (sym parts) in
    let none : length ((s ++ first) ++ whole) % 16 + length last ≡ length last =
    omega (arith, two) in
    let P : List ℕ → Type 0 = λ l. IsHashing h y l z after in
    subst P joined
    (unfilled h y z ((s ++ first) ++ whole) rest last after
    (whole_blocks h y u (s ++ first) rest whole rest
    (filled h y v s rest first block rest is fills written) one blocks)
    (omega (arith, two, few))
    (ap (λ k. take k after) none ∙ end ∙ sym (ap (λ k. take k rest ++ last) two)))

-- GHASH of a string that came in pieces, padded: zeros fill its last block
pub closed : (h y v : ℕ) (s rest : List ℕ) → IsHashing h y s v rest
    → hashed h v (padded (take (length s % 16) rest))
    (length (padded (take (length s % 16) rest)) / 16)
    ≡ hashed h y (padded s) (length (padded s) / 16)
unfolding padded
closed h y v s rest is =
    let n : ℕ = length s / 16 in
    let a : List ℕ = take (16 * n) s in
    let t : List ℕ = drop (16 * n) s in
    let a_long : length a ≡ 16 * n = omega (arith, length-take (16 * n) s) in
    let t_long : length t ≡ length s % 16 = omega (arith, length-drop (16 * n) s) in
    let both : a ++ t ≡ s = take-append-drop (16 * n) s in
    let zeros : (16 - length t % 16) % 16 ≡ (16 - length s % 16) % 16 = omega (arith, t_long) in
    let whole : a ++ padded t ≡ padded s =
    sym (append_assoc a t (replicate ((16 - length t % 16) % 16) 0))
    ∙ (λ i. both i ++ replicate (zeros i) 0) in
    let count : n + length (padded t) / 16 ≡ length (padded s) / 16 =
    omega (arith, length-padded t, length-padded s, t_long) in
    ap (λ l. hashed h v (padded l) (length (padded l) / 16)) is.rest
    ∙ ap (λ z. hashed h z (padded t) (length (padded t) / 16))
    (is.value ∙ ap (λ l. hashed h y l n) (sym both)
    ∙ hashed_first h y a t n (omega (arith, a_long)))
    ∙ sym (hashed_on h y a (padded t) n (length (padded t) / 16) a_long)
    ∙ (λ i. hashed h y (whole i) (count i))

-- S of additional data and text follows from the value after both and from their lengths
pub summed : (h v m n : ℕ) (a c : List ℕ)
    → v ≡ hashed h (hashed_padded h a) (padded c) (length (padded c) / 16)
    → m ≡ length a → n ≡ length c
    → product (bit_xor v (from_be_bytes w128 (to_be_bytes w64 (8 * m) ++ to_be_bytes w64 (8 * n))))
    h ≡ hash h a c
unfolding hashed_padded hash bit_length
summed h v m n a c is a_long c_long =
    (λ t. product (bit_xor (is t)
    (from_be_bytes w128 (to_be_bytes w64 (8 * a_long t) ++ to_be_bytes w64 (8 * c_long t)))) h)
    ∙ sym (ghash_pieces h (padded a) (padded c) (bit_length a ++ bit_length c)
    ((length a + 15) / 16)
    ((length c + 15) / 16)
    (length-padded a) (length-padded c) refl)

-- the value after additional data alone is that after it and no text
pub no_text : (h v : ℕ) (a c : List ℕ) → v ≡ hashed_padded h a → c ≡ []
    → v ≡ hashed h (hashed_padded h a) (padded c) (length (padded c) / 16)
unfolding padded hashed
no_text h v a c is none = is
    ∙ ap (λ l. hashed h (hashed_padded h a) (padded l) (length (padded l) / 16)) (sym none)

-- after additional data alone the text begins, and none of it is hashed yet
pub first_text : (h v : ℕ) (a c rest : List ℕ) → v ≡ hashed_padded h a → c ≡ []
    → IsHashing h (hashed_padded h a) c v rest
unfolding hashed
first_text h v a c rest is none =
    let P : List ℕ → Type 0 = λ l. IsHashing h (hashed_padded h a) l v rest in
    subst P (sym none) (record { value = is; rest = refl })

-- what is known of a message both before its text and in it
pub record IsSoFar (w : List (List ℕ)) (iv a c : List ℕ) (m : Message) : Type 0 where
  pub first : from_be_bytes w128 m.first ≡ pre_counter (hash_subkey w) iv
  pub additional : m.additional ≡ length a
  pub short : IsHashedLength (length a)
  pub text : m.text ≡ length c
  pub short_text : IsTextLength (length c)

-- a message to which text may come has what `IsSoFar` says, so that a tag is proved once for both
-- phases
pub so_far : (wanted : Phase) (w : List (List ℕ)) (iv a c : List ℕ) (m : Message)
    → IsAt wanted w iv a c m
    → IsSoFar w iv a c m
so_far wanted w iv a c m (inl (is, none)) =
    record {
      first = is.first;
      additional = is.additional;
      short = is.short;
      text = is.text ∙ sym (ap length none);
      short_text = omega (arith, ap length none);
    }
so_far wanted w iv a c m (inr is) =
    record {
      first = is.first;
      additional = is.additional;
      short = is.short;
      text = is.text;
      short_text = is.short_text;
    }

-- ---- GCTR

-- a text and more of it: GCTR's keystream goes on
pub text_on : (w : List (List ℕ)) (iv p b c : List ℕ) (j position : ℕ)
    → j ≡ pre_counter (hash_subkey w) iv
    → position ≡ 16 + length p → c ≡ plus_stream (gctr_byte w j) position b
    → text w iv p ++ c ≡ text w iv (p ++ b)
unfolding text
text_on w iv p b c j position first at is =
    let x : ℕ = pre_counter (hash_subkey w) iv in
    ap (λ l. gctr w (inc32 x) p ++ l)
    (is ∙ (λ i. plus_stream (gctr_byte w (first i)) (at i) b))
    ∙ ap (λ l. l ++ plus_stream (gctr_byte w x) (16 + length p) b) (sym (from_second w x p))
    ∙ sym (plus-append (gctr_byte w x) 16 p b)
    ∙ from_second w x (p ++ b)

-- a text is as long as what it encrypts
pub length-text : (w : List (List ℕ)) (iv p : List ℕ) → length (text w iv p) ≡ length p
unfolding text gctr
length-text w iv p = length-plus (gctr_byte w (inc32 (pre_counter (hash_subkey w) iv))) 0 p
