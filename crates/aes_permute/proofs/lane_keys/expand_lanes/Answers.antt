-- What is written are the round keys of the key, and they are read as that key.
use Rattle.std.proofs.Common.{rules, refl, ◌∙◌, arith}
use Rattle.aes_planes.specs.Fips197 as fips
use Rattle.aes_permute.proofs.Expansion.{written_are_used}
use Rattle.aes_permute.proofs.KeyOfLanes.{read_as, schedule_read}
use Rattle.aes_permute.proofs.lane_keys.expand_lanes.Goals as goal

pub returns-clause-keys : goal.returns-clause-keys
returns-clause-keys c = written_are_used _ _ (fips.rounds c.args.key.now) c.expand.ensures.keys refl
    (omega (arith, c.expand.ensures.same_length, c.requires.sized))

pub returns-clause-schedule : goal.returns-clause-schedule
returns-clause-schedule c =
    schedule_read _ c.args.key.now c.requires.one_of_three
    (c.expand.ensures.same_length ∙ c.requires.sized) (search rules) (returns-clause-keys c)

pub returns-clause-key : goal.returns-clause-key
returns-clause-key c =
    read_as _ c.args.key.now c.requires.one_of_three
    (c.expand.ensures.same_length ∙ c.requires.sized) (search rules) (returns-clause-keys c)
