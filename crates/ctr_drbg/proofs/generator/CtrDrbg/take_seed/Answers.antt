-- An update by the seed, with the counter set to 1, is a reseed.
use Rattle.std.proofs.Common.{rules}
use Rattle.ctr_drbg.proofs.States.{reseeded_by}
use Rattle.ctr_drbg.proofs.generator.CtrDrbg.take_seed.Goals as goal

pub returns : goal.returns
returns g c =
    let counted = c.set_counter.ensures in
    reseeded_by c.args.entropy_input.now c.args.additional_input.now _ c.args.self.now
    c.set_counter.new.self
    c.update.new.self c.update.ensures (search rules) counted.key counted.v counted.counter
