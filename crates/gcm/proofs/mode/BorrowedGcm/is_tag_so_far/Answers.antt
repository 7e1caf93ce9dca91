-- The comparison with the tag that was written is one with the standard's.
use Rattle.std.proofs.Common.{◌∙◌, sym}
use Rattle.gcm.proofs.Messages.Hashing.{one_block_of}
use Rattle.gcm.proofs.mode.BorrowedGcm.is_tag_so_far.Goals as goal

pub returns : goal.returns
returns g c phase iv a t other at =
    let made = one_block_of _ _ _ _ _ (c.value_mut.ensures.value ∙ c.zeroed-expected.ensures)
    c.value.ensures
    ∙ c.put_tag_so_far.ensures phase iv a t other at in (
      λ e. c.is_expected-is_equal.ensures.0 e
          ∙ made,
      λ e. c.is_expected-is_equal.ensures.1 (e ∙ sym made),
    )
