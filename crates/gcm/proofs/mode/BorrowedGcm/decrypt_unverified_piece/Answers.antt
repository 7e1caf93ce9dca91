-- A piece is hashed as it came, and decrypted from where those before it end.
use Rattle.std.proofs.Common.{ℕ, ◌+◌, ◌∙◌, List, ap, arith}
use Rattle.std.specs.Int.{w128, from_be_bytes}
use Rattle.aes_ctr.specs.CounterMode.{plus_stream}
use Rattle.gcm.specs.Gcm.{gctr_byte}
use Rattle.gcm.specs.declared.message_state.Phase.TheVariants.{Verifying}
use Rattle.gcm.proofs.Messages.InPieces.{text_on}
use Rattle.gcm.proofs.mode.BorrowedGcm.decrypt_unverified_piece.Goals as goal

pub returns-clause-decrypted : goal.returns-clause-decrypted
returns-clause-decrypted g c iv a before at =
    let turned = c.in_ok-enter_phase.ensures.turned iv a before at in
    let added = c.hash_text.ensures Verifying iv a before turned in
    let j : ℕ = from_be_bytes w128 c.hash_text.new.message.first in
    let position : ℕ = 16 + c.enter_phase.new.message.text in
    let b : List ℕ = c.args.text.now in
    text_on c.args.self.now iv before b c.add_gctr.new.bytes j position added.first
    (omega (arith, turned.text))
    (c.add_gctr.ensures ∙ ap (λ w. plus_stream (gctr_byte w j) position b) c.self.view_is)

pub returns-clause-added : goal.returns-clause-added
returns-clause-added g c iv a before at =
    c.hash_text.ensures Verifying iv a before (c.in_ok-enter_phase.ensures.turned iv a before at)
