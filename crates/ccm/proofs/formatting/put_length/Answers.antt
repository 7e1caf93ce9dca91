-- In each of the three cases, two, six or ten bytes, what is written is the encoded length.
use Rattle.std.proofs.Common.{◌∙◌, ℕ, List, ◌∷◌, ◌++◌, length, drop, replicate, ap, sym, arith, refl, slice_set}
use borrow.Rule.Slice.PartMut.{put_mid}
use Rattle.aes_planes.specs.BigEndian.{bytes}
use Rattle.ccm.proofs.Bytes.{last_of_64, of_64}
use Rattle.ccm.proofs.Lengths.{encoded_in_two, encoded_in_six, encoded_in_ten}
use Rattle.ccm.proofs.formatting.put_length.Goals as goal

pub returns-then-additional-lt-IN_SIX_BYTES-clause-size
    : goal.returns-then-additional-lt-IN_SIX_BYTES-clause-size
unfolding bytes
returns-then-additional-lt-IN_SIX_BYTES-clause-size c =
    sym (ap length (encoded_in_two c.args.additional c.requires.some
    (omega (arith, c.if-additional-lt-IN_SIX_BYTES.true))))

pub returns-then-additional-lt-IN_SIX_BYTES-clause-length
    : goal.returns-then-additional-lt-IN_SIX_BYTES-clause-length
returns-then-additional-lt-IN_SIX_BYTES-clause-length c =
    let a = c.args.additional in
    let length =
    c.copy_from_slice.ensures.after
    ∙ last_of_64 6 2 a c.to_be_bytes-bytes.result refl c.to_be_bytes-bytes.ensures
    ∙ sym (encoded_in_two a c.requires.some (omega (arith, c.if-additional-lt-IN_SIX_BYTES.true)))
    in
    (λ t. length t ++ ap (λ b. drop 2 (drop 0 b)) c.requires.empty t)

pub returns-then-additional-lt-IN_TEN_BYTES-clause-size
    : goal.returns-then-additional-lt-IN_TEN_BYTES-clause-size
unfolding bytes
returns-then-additional-lt-IN_TEN_BYTES-clause-size c =
    sym (ap length (encoded_in_six c.args.additional
    (omega (arith, c.if-additional-lt-IN_SIX_BYTES.false))
    (omega (arith, c.if-additional-lt-IN_TEN_BYTES.true))))

pub returns-clause-size : goal.returns-clause-size
unfolding bytes
returns-clause-size c =
    sym (ap length (encoded_in_ten c.args.additional
    (omega (arith, c.if-additional-lt-IN_TEN_BYTES.false))))

pub returns-then-additional-lt-IN_TEN_BYTES-clause-length
    : goal.returns-then-additional-lt-IN_TEN_BYTES-clause-length
returns-then-additional-lt-IN_TEN_BYTES-clause-length c =
    let a = c.args.additional in
    let written = c.copy_from_slice-then-additional-lt-IN_TEN_BYTES in
    let zeros : List ℕ = replicate 10 0 in
    let encoded = encoded_in_six a (omega (arith, c.if-additional-lt-IN_SIX_BYTES.false))
    (omega (arith, c.if-additional-lt-IN_TEN_BYTES.true)) in
    ap (λ b. put_mid 2 4 (slice_set (slice_set b 0 255) 1 254) written.new.self) c.requires.empty
    ∙ ap (λ l. 255 ∷ 254 ∷ (l ++ zeros))
    (written.ensures.after
    ∙ last_of_64 4 4 a c.to_be_bytes-bytes.result refl c.to_be_bytes-bytes.ensures)
    ∙ ap (λ l. l ++ zeros) (sym encoded)

pub returns-clause-length : goal.returns-clause-length
returns-clause-length c =
    let a = c.args.additional in
    let zeros : List ℕ = replicate 6 0 in
    let encoded = encoded_in_ten a (omega (arith, c.if-additional-lt-IN_TEN_BYTES.false)) in
    ap (λ b. put_mid 2 8 (slice_set (slice_set b 0 255) 1 255) c.copy_from_slice-2.new.self)
    c.requires.empty
    ∙ ap (λ l. 255 ∷ 255 ∷ (l ++ zeros))
    (c.copy_from_slice-2.ensures.after ∙ c.to_be_bytes-bytes.ensures ∙ of_64 a)
    ∙ ap (λ l. l ++ zeros) (sym encoded)
