-- A piece that doesn't fill the block that has begun, and one that fills it and goes on behind it.
use Rattle.std.proofs.Common.{◌≡◌, ℕ, ◌+◌, ◌-◌, ◌/◌, ◌≤◌, ◌∙◌, List, ◌++◌, ap, arith, bit_xor}
use Rattle.std.proofs.Common.{length, length-take, length-drop, subst, sym, take, drop}
use Rattle.std.proofs.lemmas.List.{take_all}
use Rattle.std.proofs.lemmas.Slice.{take-put_mid}
use Rattle.std.proofs.Math.Seq.{take-append_seam}
use Rattle.std.specs.Int.{w128, from_be_bytes}
use Rattle.aes_cipher.specs.Blocks.{padded}
use Rattle.gcm.specs.Gcm.{product, hashed}
use Rattle.gcm.specs.Pieces.{IsHashing}
use Rattle.gcm.proofs.Messages.InPieces.{unfilled, parts_joined, three_parts}
use Rattle.gcm.proofs.hash_room.hash_piece.Goals as goal
use borrow.Rule.Slice.PartMut.{post_of, put_mid, same_len_mid}

pub returns-then-bytes-rest_length : goal.returns-then-bytes-rest_length
returns-then-bytes-rest_length g c y s places is =
    let b : List ℕ = c.args.bytes.now in
    let rest : List ℕ = c.args.rest.now in
    let f : ℕ = c.args.rest_length in
    let copied : List ℕ = c.copy_from_slice.new.self in
    let same : copied ≡ b = c.copy_from_slice.ensures.after in
    unfilled c.args.room.now y (from_be_bytes w128 c.args.value.now) s rest b _ is
    (omega (arith, places, c.if-bytes-rest_length.true))
    (ap (λ n. take (n + length b) (put_mid f (f + length b - f) rest copied)) places
    ∙ take-put_mid f (f + length b - f) rest copied (f + length b) (omega (arith, ap length same))
    (omega arith)
    ∙ (λ t. take (sym places t) rest ++ same t))

pub returns : goal.returns
returns g c y s places is =
    let h : ℕ = c.args.room.now in
    let b : List ℕ = c.args.bytes.now in
    let rest : List ℕ = c.args.rest.now in
    let f : ℕ = c.args.rest_length in
    let first : List ℕ = c.split_at.result.0.now in
    let whole : List ℕ = c.split_at-2.result.0.now in
    let last : List ℕ = c.split_at-2.result.1.now in
    let copied : List ℕ = c.copy_from_slice-2.new.self in
    let block : List ℕ = put_mid f (16 - f) rest copied in
    let same : copied ≡ first = c.copy_from_slice-2.ensures.after in
    let sized : length block ≡ length rest =
    same_len_mid f (16 - f) rest copied
    (omega (
      arith,
      ap length same,
      c.split_at.ensures.front_len,
      length-take (16 - f)
          (drop f rest),
      length-drop f rest,
    )) in
    let long : length block ≤ 16 = omega (arith, sized) in
    let copied_last : List ℕ = c.copy_from_slice-3.new.self in
    let same_last : copied_last ≡ last = c.copy_from_slice-3.ensures.after in
    let v : ℕ = from_be_bytes w128 c.args.value.now in
    let value : from_be_bytes w128 c.block_of_number.result
    ≡ hashed h (product (bit_xor v (from_be_bytes w128 block)) h) (padded whole)
    (length (padded whole) / 16) =
    c.block_of_number.ensures.back ∙ c.hash_on.ensures
    ∙ ap (λ v. hashed h v (padded whole) (length (padded whole) / 16)) (c.product-sum.ensures
    ∙ (λ t. product (bit_xor (c.number_of_block-before.ensures.number t)
    (c.number_of_block.ensures.number t)) h)) in
    let tail : List ℕ = post_of 0 (length last) block in
    let P : ℕ → Type 0 = λ v. IsHashing h y (s ++ b) v (copied_last ++ tail) in
    subst P (sym value)
    (three_parts h y v s rest b first whole last block (copied_last ++ tail) is
    (parts_joined (16 - f) _ b first _ whole last c.split_at.ensures.front c.split_at.ensures.back
    c.split_at-2.ensures.front c.split_at-2.ensures.back)
    (omega (arith, places, c.split_at.ensures.front_len))
    (sym (take_all 16 block long)
    ∙ take-put_mid f (16 - f) rest copied 16
    (omega (arith, ap length same, c.split_at.ensures.front_len)) (omega arith)
    ∙ (λ t. take (sym places t) rest ++ same t))
    (omega (arith, c.split_at-2.ensures.front_len))
    (omega (arith, c.split_at-2.ensures.front_len, c.split_at-2.ensures.back_len))
    (sym (ap (λ l. take (length l) (copied_last ++ tail)) same_last)
    ∙ take-append_seam copied_last tail ∙ same_last))
