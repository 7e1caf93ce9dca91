use Rattle.std.proofs.Common.{◌≡◌, ◌∙◌, ap, arith, length, length-set, refl, sym}
use Rattle.std.proofs.lemmas.List.{take_all}
use Rattle.key_wrap.specs.Padded.{semiblock_count, padded, semiblocks}
use Rattle.key_wrap.proofs.Padding.{semiblock_more}
use Rattle.key_wrap.proofs.padded.fill.Goals as goal

pub semiblock_at-requires : goal.semiblock_at-requires
unfolding semiblock_count
semiblock_at-requires c = omega (arith, c.requires, c.loop-i.invariant.sized)

pub loop-i-init : goal.loop-i-init
unfolding semiblocks
loop-i-init c = record { sized = refl; filled = refl }

pub loop-i-preserved : goal.loop-i-preserved
loop-i-preserved c = record {
  sized = length-set c.loop-i.others c.loop-i.i c.semiblock_at.result ∙ c.loop-i.invariant.sized;
  filled = semiblock_more c.args.key.now c.loop-i.others c.loop-i.i c.semiblock_at.result
      (omega arith)
      (c.loop-i.invariant.sized ∙ c.requires) c.semiblock_at.ensures c.loop-i.invariant.filled;
}

pub returns : goal.returns
returns c =
    let all : c.loop-i.i ≡ semiblock_count (length c.args.key.now) = omega (arith, c.requires) in
    sym (take_all c.loop-i.i c.loop-i.others (omega (arith, c.loop-i.invariant.sized)))
    ∙ c.loop-i.invariant.filled
    ∙ ap (semiblocks (padded c.args.key.now)) all
