-- The high nibbles stand in both halves, and each is a place of a table of sixteen bytes.
use Rattle.std.proofs.Common.{rules, ap, ◌∙◌, ◌/◌, ◌^◌, map, replicate}
use lib.Lanes.{zip2}
use Rattle.aes_permute.specs.Lookup.{high_nibble}
use Rattle.aes_permute.proofs.Lookups.{high_is}
use Rattle.gcm.proofs.Tables.RowPairs.{high_twice, nibbles_twice}
use Rattle.gcm.proofs.row_pairs.high_nibbles_twice.Goals as goal

pub returns-clause-nibbles : goal.returns-clause-nibbles
returns-clause-nibbles c = ap (λ l. zip2 (λ a b. a / 2 ^ b) l (replicate 32 4)) c.twice.ensures
    ∙ high_twice c.args.x (search rules)

pub returns-clause-places : goal.returns-clause-places
returns-clause-places c =
    nibbles_twice (map high_nibble c.args.x) _ (high_is c.args.x (search rules))
    (returns-clause-nibbles c)
