use Rattle.std.proofs.Common.{◌++◌, ◌∙◌, ap, sym, take}
use Rattle.key_wrap.specs.KeyWrap.{integrity_check}
use Rattle.key_wrap.proofs.wrapping.is_integrity_check.Goals as goal

pub returns : goal.returns
returns c =
    let joined = c.block_of_halves-both.ensures in (
      (λ same.
          sym (c.halves_and_blocks.ensures.first c.args.check.now integrity_check c.told-check)
          ∙ ap (take 8) (sym joined ∙ c.blocks_equal.ensures.0 same)),
      λ is. c.blocks_equal.ensures.1 (joined ∙ ap (λ half. half ++ integrity_check) is),
    )
