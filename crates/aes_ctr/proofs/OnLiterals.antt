-- Counter mode on literals: what a lemma unfolds to compute it, and a keystream block by the table
-- of the S-box.
use Rattle.std.specs.Prelude.{⊤}
use Rattle.aes_planes.specs.Fips197.{build}
use Rattle.aes_planes.proofs.OnLiterals.{aes_on_literals, aes_by_table}
use Rattle.aes_ctr.specs.CounterMode.{counter, counter_block, keystream_byte, plus_stream}
use Rattle.aes_ctr.specs.CounterMode.{pieces_plus_stream}

-- the definitions to unfold, so that counter mode on literals is computed
unfoldable pub ctr_on_literals : ⊤
unfolding aes_on_literals build counter counter_block plus_stream pieces_plus_stream
ctr_on_literals = tt

-- the definition that a rule of examples states
unfoldable pub ctr_rules : ⊤
unfolding keystream_byte
ctr_rules = tt

-- what one keystream block on literals unfolds, by the table of the S-box
unfoldable pub ctr_by_table : ⊤
unfolding aes_by_table counter counter_block
ctr_by_table = tt
