-- The first piece of text closes the additional data, and every later one finds the message in its
-- text.
use Rattle.std.proofs.Common.{◌≡◌, ◌∙◌, inl, inr, ap, arith, length, sym, rules}
use Rattle.std.specs.Int.{w128, from_be_bytes}
use Rattle.gcm.specs.Gcm.{hash_subkey}
use Rattle.gcm.specs.Pieces.{phase_of}
use Rattle.gcm.specs.declared.message_state.Phase.TheVariants.{Additional}
use Rattle.gcm.proofs.Messages.InPieces.{first_text}
use Rattle.gcm.proofs.mode.BorrowedGcm.enter_phase.Goals as goal

pub returns-then-eq-clause-turned : goal.returns-then-eq-clause-turned
unfolding phase_of
returns-then-eq-clause-turned g c iv a t at =
    let additional : phase_of c.args.message.now.phase ≡ Additional = search rules in
    elim at [
      | inl b ↦ record {
        phase = c.number_of_phase-message.ensures;
        first = b.0.first;
        additional = b.0.additional;
        short = b.0.short;
        text = b.0.text ∙ sym (ap length b.1);
        short_text = omega (arith, ap length b.1);
        decrypted = b.0.decrypted;
        hashing = first_text (hash_subkey c.args.self.now)
            (from_be_bytes w128 c.block_of_number-message.result) a t
            c.args.message.now.rest (c.block_of_number-message.ensures.back
            ∙ c.hash_so_far-value.ensures.additional iv a b.0) b.1;
      }
      | inr is ↦ absurd (c.requires (sym is.phase ∙ additional))
    ]
