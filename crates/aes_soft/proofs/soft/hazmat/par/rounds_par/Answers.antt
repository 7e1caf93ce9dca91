use Rattle.std.proofs.Common.{ap, ◌∙◌}
use Rattle.aes_planes.specs.Fips197.{add_round_key}
use Rattle.aes_planes.specs.SingleRounds.{rounds_by_place}
use Rattle.aes_soft.proofs.ByPlace.{zip_with-map}
use Rattle.aes_soft.proofs.soft.hazmat.par.rounds_par.Goals as goal

pub returns : goal.returns
returns g c =
    let keys = c.args.round_keys.now in
    c.add_round_keys.ensures
    ∙ ap (λ blocks. rounds_by_place add_round_key blocks keys) c.step_each.ensures
    ∙ zip_with-map add_round_key g.D.Direction.step c.args.blocks.now keys
