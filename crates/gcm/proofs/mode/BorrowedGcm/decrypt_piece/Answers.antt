-- A piece goes on where those before it end, so that together they are the text's decryption.
use Rattle.std.proofs.Common.{ℕ, ◌+◌, ◌∙◌, List, ap, arith}
use Rattle.std.specs.Int.{w128, from_be_bytes}
use Rattle.aes_ctr.specs.CounterMode.{plus_stream}
use Rattle.gcm.specs.Gcm.{gctr_byte}
use Rattle.gcm.proofs.Messages.InPieces.{text_on}
use Rattle.gcm.proofs.mode.BorrowedGcm.decrypt_piece.Goals as goal

pub returns-clause-decrypted : goal.returns-clause-decrypted
returns-clause-decrypted g c n iv before is =
    let j : ℕ = from_be_bytes w128 c.args.message.now.first in
    let position : ℕ = 16 + c.args.message.now.decrypted in
    let b : List ℕ = c.args.text.now in
    text_on c.args.self.now iv before b c.add_gctr.new.bytes j position is.first
    (omega (arith, is.decrypted))
    (c.add_gctr.ensures ∙ ap (λ w. plus_stream (gctr_byte w j) position b) c.self.view_is)
