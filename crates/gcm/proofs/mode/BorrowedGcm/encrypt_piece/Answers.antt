-- A piece is encrypted from where those before it end, and then hashed.
use Rattle.std.proofs.Common.{ℕ, ◌+◌, ◌∙◌, ◌++◌, List, ap, arith, length}
use Rattle.std.specs.Int.{w128, from_be_bytes}
use Rattle.aes_ctr.specs.CounterMode.{plus_stream}
use Rattle.gcm.specs.Gcm.{gctr_byte}
use Rattle.gcm.specs.declared.message_state.Phase.TheVariants.{Encrypting}
use Rattle.gcm.proofs.Messages.InPieces.{length-text, text_on}
use Rattle.gcm.proofs.mode.BorrowedGcm.encrypt_piece.Goals as goal

pub returns-clause-encrypted : goal.returns-clause-encrypted
returns-clause-encrypted g c iv a p before at same =
    let turned = c.in_ok-enter_phase.ensures.turned iv a before at in
    let j : ℕ = from_be_bytes w128 c.enter_phase.new.message.first in
    let position : ℕ = 16 + c.enter_phase.new.message.text in
    let b : List ℕ = c.args.text.now in
    ap (λ l. l ++ c.add_gctr.new.bytes) same
    ∙ text_on c.args.self.now iv p b c.add_gctr.new.bytes j position turned.first
    (omega (arith, turned.text, ap length same, length-text c.args.self.now iv p))
    (c.add_gctr.ensures ∙ ap (λ w. plus_stream (gctr_byte w j) position b) c.self.view_is)

pub returns-clause-added : goal.returns-clause-added
returns-clause-added g c iv a before at =
    c.hash_text.ensures Encrypting iv a before (c.in_ok-enter_phase.ensures.turned iv a before at)
