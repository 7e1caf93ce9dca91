-- The loop begins with the first round key added, and each turn is one round more.
use Rattle.std.proofs.Common.{◌≡◌, ℕ, ◌+◌, ◌-◌, List, map, ap, ◌∙◌, arith}
use Rattle.aes_planes.specs.Fips197 as fips
use Rattle.std.proofs.lemmas.Simd.{map-map}
use Rattle.aes_planes.proofs.Lists.{map-ext}
use Rattle.aes_planes.specs.Rounds.{rounds_after, all_rounds}
use Rattle.aes_planes.proofs.Standard.AllRounds.{rounds_more}
use Rattle.aes_rounds.proofs.rounds.all_rounds.apply_rounds.Goals as goal

pub loop-number-init : goal.loop-number-init
unfolding rounds_after
loop-number-init g c = c.add_round_key.ensures

pub loop-number-preserved : goal.loop-number-preserved
loop-number-preserved g c =
    let w = c.args.round_keys.now in
    let n = c.loop-number.number in
    let blocks = c.args.blocks.now in
    let round : List ℕ
    → List ℕ = λ b. fips.add_round_key (g.D.Direction.step b) (fips.round_key w n) in
    let e : n ≡ n + 1 - 1 = omega arith in
    c.round.ensures ∙ ap (map round) c.loop-number.invariant
    ∙ map-map round (λ b. rounds_after g.D.Direction.step w b (n - 1)) blocks
    ∙ map-ext _ _ blocks (λ b. rounds_more g.D.Direction.step w b n (omega arith)
    ∙ ap (rounds_after g.D.Direction.step w b) e)

pub returns : goal.returns
unfolding all_rounds
returns g c =
    let w = c.args.round_keys.now in
    let last = g.D.Direction.last_step in
    let after : ℕ → List ℕ → List ℕ = λ n b. rounds_after g.D.Direction.step w b n in
    let add : List ℕ → List ℕ = λ b. fips.add_round_key b (fips.round_key w (fips.last_round w)) in
    let blocks = c.args.blocks.now in
    let e : c.loop-number.number ≡ fips.last_round w = omega arith in
    c.add_round_key-2.ensures
    ∙ ap (map add) (c.last_step.ensures
    ∙ ap (map last) (c.loop-number.invariant ∙ ap (λ n. map (after (n - 1)) blocks)
    e) ∙ map-map last (after (fips.last_round w - 1)) blocks)
    ∙ map-map add (λ b. last (after (fips.last_round w - 1) b)) blocks
