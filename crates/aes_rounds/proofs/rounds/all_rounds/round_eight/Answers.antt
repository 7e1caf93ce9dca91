-- Eight blocks under eight copies of one round key.
use Rattle.std.proofs.Common.{◌∙◌}
use Rattle.aes_planes.specs.Fips197 as fips
use Rattle.aes_planes.proofs.Planes.Held.{zip_with-replicate}
use Rattle.aes_rounds.proofs.rounds.all_rounds.round_eight.Goals as goal

pub returns : goal.returns
returns g c = c.round_par.ensures
    ∙ zip_with-replicate (λ b k. fips.add_round_key (g.D.Direction.step b) k)
    c.args.batch.now 8 c.args.round_key.now c.told-batch
