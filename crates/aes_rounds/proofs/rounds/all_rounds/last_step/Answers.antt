-- A round under the zero key, with its mixing undone, is the last step.
use Rattle.std.proofs.Common.{List, ℕ, map, replicate, ap, ◌∙◌}
use Rattle.aes_planes.specs.Fips197 as fips
use Rattle.std.proofs.lemmas.Simd.{map-map}
use Rattle.aes_planes.proofs.Lists.{map-ext}
use Rattle.aes_rounds.proofs.rounds.all_rounds.last_step.Goals as goal

pub returns : goal.returns
returns g c =
    let blocks = c.args.blocks.now in
    let keyed : List ℕ → List ℕ = λ b. fips.add_round_key (g.D.Direction.step b) (replicate 16 0) in
    c.unmix.ensures ∙ ap (map g.D.SingleRounds.unmixed) c.round.ensures
    ∙ map-map g.D.SingleRounds.unmixed keyed blocks
    ∙ map-ext _ _ blocks c.unmixed_round_is_last.ensures
