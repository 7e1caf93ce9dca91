-- InvMixColumns takes MixColumns out of a round under the zero key, which leaves the last round.
use Rattle.std.proofs.Common.{◌∙◌, ap}
use Rattle.aes_planes.specs.Fips197 as fips
use Rattle.aes.proofs.SingleRounds.{mixing_undone}
use Rattle.aes_callers_tests.proofs.tests.counter_mode.two_keys.last_round.Goals as goal

pub returns : goal.returns
returns c =
    c.sum_of_blocks.ensures
    ∙ ap (λ s. fips.add_round_key s c.args.round_key.now)
    (c.inv_mix_columns.ensures ∙ ap fips.inv_mix_columns c.cipher_round.ensures
    ∙ mixing_undone c.args.block.now)
