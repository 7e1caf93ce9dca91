-- A request's steps, one after the other, leave the working state that the standard says.
use Rattle.std.proofs.Common.{◌≡◌, ◌∙◌, ◌+◌, ap, length, rules}
use Rattle.ctr_drbg.proofs.States.{generated_by}
use Rattle.ctr_drbg.proofs.generator.CtrDrbg.answer.Goals as goal

pub returns-clause-state : goal.returns-clause-state
returns-clause-state g c =
    let moved = c.put_output.ensures in
    let counted = c.set_counter.ensures in
    let requests : c.self.inside.reseed_counter ≡ c.args.self.now.reseed_counter = search rules in
    generated_by (length c.args.output.now) c.args.additional_input.now _ c.args.self.now
    c.prepare.new.self
    c.put_output.new.self c.set_counter.new.self c.update.new.self c.update.ensures
    (search rules) c.prepare.ensures
    moved.key moved.v counted.key counted.v (counted.counter ∙ ap (λ n. n + 1) requests)
