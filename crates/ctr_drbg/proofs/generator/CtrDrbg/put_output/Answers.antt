-- V has moved on by as many turns as the output needs.
use Rattle.std.proofs.Common.{◌≡◌, ◌∙◌, [], length, rules, slice_index_or}
use Rattle.ctr_drbg.specs.CtrDrbg.{v_after, blocks_for}
use Rattle.ctr_drbg.proofs.generator.CtrDrbg.put_output.Goals as goal

pub returns-clause-v : goal.returns-clause-v
returns-clause-v g c =
    let before : slice_index_or c.value-2.result.now 0 [] ≡ c.args.self.now.v = search rules in
    let long : length c.put_output.new.bytes ≡ length c.args.output.now = search rules in
    c.put_v.ensures.v ∙ c.moved_on-v.ensures ∙ (λ i. v_after (before i) (blocks_for (long i)))
