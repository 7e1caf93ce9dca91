-- The low nibbles stand in both halves, and each is a place of a table of sixteen bytes.
use Rattle.std.proofs.Common.{rules, ap, ◌∙◌, map, replicate, bit_and}
use lib.Lanes.{zip2}
use Rattle.aes_permute.specs.Lookup.{low_nibble}
use Rattle.aes_permute.proofs.Lookups.{low_is}
use Rattle.gcm.proofs.Tables.RowPairs.{low_twice, nibbles_twice}
use Rattle.gcm.proofs.row_pairs.low_nibbles_twice.Goals as goal

pub returns-clause-nibbles : goal.returns-clause-nibbles
returns-clause-nibbles c = ap (λ l. zip2 bit_and l (replicate 32 15)) c.twice.ensures
    ∙ low_twice c.args.x (search rules)

pub returns-clause-places : goal.returns-clause-places
returns-clause-places c =
    nibbles_twice (map low_nibble c.args.x) _ (low_is c.args.x (search rules))
    (returns-clause-nibbles c)
