-- The tag of what has come, also if no text came.
use Rattle.gcm.proofs.mode.BorrowedGcm.end.Goals as goal

pub returns-clause-tag : goal.returns-clause-tag
returns-clause-tag g c iv a t at = c.put_tag_so_far.ensures _ iv a t c.requires at
