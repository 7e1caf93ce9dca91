-- A piece is hashed as it came.
use Rattle.gcm.specs.declared.message_state.Phase.TheVariants.{Verifying}
use Rattle.gcm.proofs.mode.BorrowedGcm.verify_piece.Goals as goal

pub returns-clause-added : goal.returns-clause-added
returns-clause-added g c iv a before at =
    c.hash_text.ensures Verifying iv a before (c.in_ok-enter_phase.ensures.turned iv a before at)
