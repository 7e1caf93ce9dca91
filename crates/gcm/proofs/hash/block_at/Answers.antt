-- Sixteen bytes of the string, as the number that the order of bytes makes of them.
use Rattle.std.proofs.Common.{ℕ, ◌+◌, ◌-◌, ◌*◌, ◌∙◌, ap, arith, drop, length-take}
use Rattle.std.proofs.lemmas.List.{take_all}
use Rattle.std.specs.List.{slice_range}
use Rattle.gcm.specs.Hashed.{number_at}
use Rattle.gcm.proofs.hash.block_at.Goals as goal

pub returns : goal.returns
unfolding number_at
returns g c =
    let i : ℕ = 16 * c.args.i in
    c.highest_first.ensures
    ∙ ap g.O.ByteOrder.number (take_all 16 (slice_range c.args.bytes.now i (i + 16))
    (omega (arith, length-take (i + 16 - i) (drop i c.args.bytes.now))))
