-- A short tag, filled up with the expected one's last bytes, equals it exactly if it is its
-- beginning.
use Rattle.std.proofs.Common.{◌∙◌, ◌++◌, ap, drop, length, sym}
use Rattle.gcm.proofs.Messages.Hashing.{one_block_of}
use Rattle.aes_cipher.proofs.Strings.{first_bytes_tell}
use Rattle.gcm.proofs.mode.BorrowedGcm.is_short_tag_so_far.Goals as goal

pub returns : goal.returns
returns g c phase iv a t other at =
    let x = c.args.tag.now in
    let lent = c.value_mut.ensures.value ∙ c.zeroed-expected.ensures in
    let made = c.put_tag_so_far.ensures phase iv a t other at in
    let before = one_block_of _ _ _ _ _ lent c.value.ensures ∙ made in
    let expected = one_block_of _ _ _ _ _ lent c.value-3.ensures ∙ made in
    let claimed = one_block_of _ _ _ _ _ (c.value_mut-2.ensures.value ∙ c.zeroed-claimed.ensures)
    c.value-2.ensures
    ∙ c.put_claimed.ensures ∙ ap (λ l. x ++ drop (length x) l) before in
    let first = first_bytes_tell x _ in (
      λ e. first.0 (sym claimed ∙ c.is_expected-is_equal.ensures.0 e ∙ expected),
      λ e. c.is_expected-is_equal.ensures.1 (claimed ∙ first.1 e ∙ sym expected),
    )
