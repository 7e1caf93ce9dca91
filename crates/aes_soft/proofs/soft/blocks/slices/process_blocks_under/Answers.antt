use Rattle.std.proofs.Common.{rules, ◌≡◌, ℕ, ◌-◌, ◌%◌, List, length, map, take, refl, ap, ◌∙◌}
use Rattle.std.proofs.Common.{arith}
use Rattle.aes_cipher.proofs.SliceRuns.{finished, end_finished}
use Rattle.aes_planes.specs.Fips197.{key_expansion}
use Rattle.aes_planes.specs.Words.{word_bits}
use Rattle.aes_soft.specs.Stored.{key_of_planes}
use Rattle.aes_soft.proofs.Slices.{front_finished, none_finished}
use Rattle.aes_soft.proofs.soft.blocks.slices.process_blocks_under.Goals as goal
use Rattle.aes_soft.proofs.soft.blocks.slices.process_blocks_under.Goals.{then-whole-gt0}
use Rattle.aes_soft.proofs.soft.blocks.slices.process_blocks_under.Goals.{else-whole-gt0}

pub returns-clause-blocks : goal.returns-clause-blocks
returns-clause-blocks g c =
    let f : List ℕ → List ℕ = g.D.Direction.processed
    (key_expansion (key_of_planes (word_bits 16) 1 c.args.round_keys.now)) in
    let n : ℕ = length c.args.blocks.now in
    let whole : ℕ = n - n % c.LEN.result in
    let batches : finished f whole c.if-whole-gt0.blocks ≡ map f c.args.blocks.now =
    elim c.if-whole-gt0.branch [
      | then-whole-gt0 w ↦
          ap (finished f whole) w.blocks-is
          ∙ front_finished f whole c.args.blocks.now _ (omega arith)
          (w.process_batches_outlined.ensures.blocks
          ∙ ap (λ k. map (g.D.Direction.processed (key_expansion k)) (take whole c.args.blocks.now))
          (search rules))
      | else-whole-gt0 w ↦ ap (finished f whole) w.blocks-is
          ∙ none_finished f whole c.args.blocks.now (omega arith)
    ] in
    end_finished f whole _ _ _ (omega arith)
    refl c.process_batches_outlined-2.ensures.blocks ∙ batches
