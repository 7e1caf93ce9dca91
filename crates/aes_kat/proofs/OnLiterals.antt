-- What a lemma unfolds to compute the reply to a literal line, but for what the standard makes of
-- blocks and keys.
use Rattle.std.specs.Prelude.{⊤}
use Rattle.hex.specs.Hex.{decode_pairs, encode_with}
use Rattle.aes_planes.specs.BigEndian.{bytes}
use Rattle.aes_kat.specs.Lines.{lines_of}
use Rattle.aes_kat.specs.Reply.{first_named, request_of, answer_of, reply_to, is_fault}
use Rattle.aes_kat.specs.Answers.{answers_to, has_fault}

-- the definitions to unfold, so that the reply to a literal line is computed
unfoldable pub replies_on_literals : ⊤
unfolding decode_pairs encode_with bytes lines_of first_named request_of answer_of reply_to is_fault answers_to
    has_fault
replies_on_literals = tt
