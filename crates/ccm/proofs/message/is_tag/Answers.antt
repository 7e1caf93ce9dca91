use Rattle.std.proofs.Common.{◌∙◌, ap, length, sym, take}
use Rattle.ccm.specs.Ccm.{tag}
use Rattle.ccm.proofs.message.is_tag.Goals as goal

pub returns : goal.returns
unfolding tag
returns g c =
    let first = ap (take (length c.args.claimed.now)) c.put_tag.ensures in (
      λ e. c.begins_with.ensures.0 e ∙ first,
      λ e. c.begins_with.ensures.1 (e ∙ sym first),
    )
