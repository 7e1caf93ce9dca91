-- What a lemma unfolds to compute the formatting on literals, and what the rules of examples state.
use Rattle.std.specs.Prelude.{⊤}
use Rattle.aes_planes.specs.BigEndian.{bytes}
use Rattle.aes_ctr.specs.Streams.{stream_byte}
use Rattle.ccm.specs.Ccm.{chain_end, counter_block, encoded_length, first_block, tag, text}

-- the definitions to unfold, so that blocks of the formatting are computed
unfoldable pub formats_on_literals : ⊤
unfolding bytes counter_block encoded_length first_block
formats_on_literals = tt

-- the definitions that the rules of examples state
unfoldable pub message_rules : ⊤
unfolding encoded_length counter_block stream_byte chain_end text tag
message_rules = tt
