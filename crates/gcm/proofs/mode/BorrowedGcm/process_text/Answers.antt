-- GCTR from its second block on is the text's, since the first one masks the tag.
use Rattle.std.proofs.Common.{◌∙◌}
use Rattle.aes_ctr.specs.CounterMode.{plus_stream}
use Rattle.gcm.specs.Gcm.{text, pre_counter, gctr_byte, hash_subkey}
use Rattle.gcm.proofs.Messages.Counting.{from_second}
use Rattle.gcm.proofs.mode.BorrowedGcm.process_text.Goals as goal

pub returns : goal.returns
unfolding text
returns g c iv first =
    let t = c.args.text.now in
    c.add_gctr.ensures
    ∙ (λ i. plus_stream (gctr_byte (c.self.view_is i) (first i)) 16 t)
    ∙ from_second c.args.self.now (pre_counter (hash_subkey c.args.self.now) iv) t
