-- Whole blocks alone, or with a last one that zeros fill.
use Rattle.std.proofs.Common.{◌≡◌, ℕ, ◌-◌, ◌*◌, ◌/◌, ◌%◌, ◌∙◌, ap, arith, length, List, refl}
use Rattle.std.specs.List.{slice_range}
use Rattle.gcm.proofs.Messages.Hashing.{hashed_as_whole, one_left}
use Rattle.gcm.proofs.single_blocks.hash_singly.Goals as goal

pub returns-then-over-eq0 : goal.returns-then-over-eq0
returns-then-over-eq0 g c =
    let x : List ℕ = c.args.bytes.now in
    hashed_as_whole g.O.ByteOrder.number (g.F.Factor.subkey c.args.factor.now) _ _ (length x / 16) x
    c.hash_whole-hashed.ensures refl (omega (arith, c.if-over-eq0.true))

pub returns : goal.returns
returns g c =
    let x : List ℕ = c.args.bytes.now in
    let i : ℕ = length x / 16 in
    let from : length x - length x % 16 ≡ 16 * i = omega arith in
    c.hash_block.ensures
    ∙ one_left g.O.ByteOrder.number (g.F.Factor.subkey c.args.factor.now) _ _ i _ _ x _
    c.hash_whole-hashed.ensures (omega arith) (omega (arith, c.if-over-eq0.false))
    (ap (λ a. slice_range x a (length x)) from)
    c.last_block.ensures refl
