-- A tag is accepted exactly if its length is allowed and it is the first bytes of that of what has
-- come.
use Rattle.gcm.specs.declared.message_state.Phase.TheVariants.{Additional, Verifying}
use Rattle.std.proofs.Common.{◌≢◌, ◌∙◌, sym, refl}
use Rattle.gcm.proofs.mode.BorrowedGcm.accept_short.Goals as goal

pub returns-then-not-is_right-clause-accepted : goal.returns-then-not-is_right-clause-accepted
returns-then-not-is_right-clause-accepted g c iv a t at =
    let other : Verifying ≢ Additional = λ e. cc in
    let told = c.is_short_tag_so_far-is_right.ensures Verifying iv a t other at in
    (λ e. absurd (cc e), λ e. sym c.if-not-is_right.true ∙ told.1 e.1)

pub returns-clause-accepted : goal.returns-clause-accepted
returns-clause-accepted g c iv a t at =
    let other : Verifying ≢ Additional = λ e. cc in
    let told = c.is_short_tag_so_far-is_right.ensures Verifying iv a t other at in (
      λ e. (
        c.is_short_tag.ensures.0 c.if-not-is_short_tag.false,
        told.0
            c.if-not-is_right.false,
      ),
      λ e. refl,
    )
