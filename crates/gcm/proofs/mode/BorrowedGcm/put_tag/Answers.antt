-- The hash of a whole message under the mask of J_0 is its tag.
use Rattle.std.proofs.Common.{◌∙◌, ap}
use Rattle.std.specs.Int.{w128, to_be_bytes, from_be_bytes}
use Rattle.gcm.specs.Gcm.{tag, hash, hash_subkey, gctr}
use Rattle.gcm.proofs.mode.BorrowedGcm.put_tag.Goals as goal

pub returns : goal.returns
unfolding tag
returns g c iv first =
    let a = c.args.additional.now in
    let t = c.args.text.now in
    let w = g.C.RoundKeysUser.round_keys c.self.inside.cipher in
    let value = c.hash-value.ensures
    ∙ ap (λ h. hash h a t) (c.self.invariant ∙ ap hash_subkey c.self.view_is) in
    c.add_masked.ensures w (from_be_bytes w128 c.args.first.now) c.put_mask.ensures
    ∙ (λ i. gctr (c.self.view_is i) (first i) (to_be_bytes w128 (value i)))
