-- The keystream of the counter blocks is that of GCTR; no bytes stay as they are.
use Rattle.std.proofs.Common.{◌∙◌, arith}
use Rattle.std.specs.Int.{w128, from_be_bytes}
use Rattle.gcm.specs.Gcm.{gctr_byte}
use Rattle.gcm.proofs.Messages.Counting.{none_added, stream_is}
use Rattle.gcm.proofs.gctr.add_gctr.Goals as goal

pub returns-then-bytes-gt0 : goal.returns-then-bytes-gt0
returns-then-bytes-gt0 g c =
    c.add_stream.ensures
    ∙ stream_is (g.C.RoundKeysUser.round_keys c.args.cipher.now)
    (from_be_bytes w128 c.args.first.now) c.args.position
    c.args.bytes.now

pub returns-else-bytes-gt0 : goal.returns-else-bytes-gt0
returns-else-bytes-gt0 g c =
    none_added (gctr_byte (g.C.RoundKeysUser.round_keys c.args.cipher.now)
    (from_be_bytes w128 c.args.first.now)) c.args.position
    c.args.bytes.now
    (omega (arith, c.if-bytes-gt0.false))
