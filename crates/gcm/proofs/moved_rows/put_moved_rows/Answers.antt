-- Two rows more, the first ones with what falls out of the last; their look-ups are in the tables.
use Rattle.std.proofs.Common.{rules, ◌≡◌, ◌+◌, ◌-◌, ◌*◌, ◌∙◌, ap, sym, subst, arith, length-set, List}
use Rattle.std.proofs.Common.{ℕ, [], get_or}
use Rattle.aes_planes.proofs.Lists.{build_is}
use Rattle.aes_permute.specs.Lookup.{AreIndices}
use Rattle.aes_permute.specs.Vectors.{half}
use Rattle.aes_permute.proofs.Lookups.{nibbles_are_indices, low_is}
use Rattle.gcm.specs.Gcm.{v_at}
use Rattle.gcm.specs.Multiples.{multiples_row, multiples_rows, row_at}
use Rattle.gcm.proofs.Tables.Written.{two_more}
use Rattle.gcm.proofs.Tables.MovedRows.{first_row, second_row, later_row, lane_in_pair}
use Rattle.gcm.proofs.Tables.MovedRows.{zeros_and_row}
use Rattle.gcm.proofs.moved_rows.put_moved_rows.Goals as goal

pub lookup-first-requires : goal.lookup-first-requires
lookup-first-requires c = record {
  are_indices = λ i. subst AreIndices (sym (c.low_nibbles-last.ensures i))
      (nibbles_are_indices _ (low_is _ c.block_has_16_bytes.ensures));
}

pub lookup-second-requires : goal.lookup-second-requires
lookup-second-requires c = record {
  are_indices = λ i. subst AreIndices (sym (c.low_nibbles-last.ensures i))
      (nibbles_are_indices _ (low_is _ c.block_has_16_bytes.ensures));
}

pub loop-r-init : goal.loop-r-init
unfolding half
loop-r-init c =
    let f = λ (i : ℕ). multiples_row (v_at c.args.v 4) (row_at i) in
    let before = zeros_and_row c.joined-before.result _ c.joined-before.ensures in
    record {
      sized = omega (arith, c.requires.sized, length-set {A = List ℕ});
      at = two_more f _ 1 _ _ (omega (arith, c.requires.sized, length-set {A = List ℕ})) (omega arith)
          (second_row c.args.v c.args.rows.now _ _ _ c.requires.rows (search rules)
          c.block_has_16_bytes.ensures.0
          (lane_in_pair _ _ _ _ _ _ 0 c.lower-2.ensures (c.load-2.ensures 0 (omega arith))
          (c.load-3.ensures 0 (omega arith)) c.moved-pair-2.ensures)
          (c.lookup-second.ensures 0) (c.low_nibbles-last.ensures 0))
          (later_row c.args.v 7 3 1 c.args.rows.now _ c.requires.rows (omega arith) (omega arith)
          (omega arith) (omega arith) (omega arith) (search rules)
          (lane_in_pair _ _ _ _ _ _ 1 c.upper-2.ensures (c.load-2.ensures 1 (omega arith))
          (c.load-3.ensures 1 (omega arith)) c.moved-pair-2.ensures))
          (two_more f c.args.moved_rows.now 0 _ _ c.requires.sized (omega arith)
          (first_row c.args.v c.args.rows.now _ _ _ (omega arith) c.requires.rows (search rules)
          c.block_has_16_bytes.ensures.0
          (lane_in_pair _ _ _ _ _ _ 0 c.lower.ensures (c.load.ensures 0 (omega arith)) before.0
          c.moved-pair.ensures)
          (c.lookup-first.ensures 0) (c.low_nibbles-last.ensures 0))
          (later_row c.args.v 6 1 14 c.args.rows.now _ c.requires.rows (omega arith) (omega arith)
          (omega arith) (omega arith) (omega arith) (search rules)
          (lane_in_pair _ _ _ _ _ _ 1 c.upper.ensures (c.load.ensures 1 (omega arith)) before.1
          c.moved-pair.ensures))
          (λ k h. absurd (omega (arith, h))));
    }

pub loop-r-preserved : goal.loop-r-preserved
unfolding half
loop-r-preserved c =
    let f = λ (i : ℕ). multiples_row (v_at c.args.v 4) (row_at i) in
    let rows : List (List ℕ) = c.args.rows.now in
    let r : ℕ = c.loop-r.r in
    let inside = c.loop-r-test.true in
    let here : 2 * r + 0 ≡ 2 * r = omega arith in
    let there : 2 * r - 2 + 0 ≡ 2 * r - 2 = omega arith in
    record {
      sized = omega (arith, length-set {A = List ℕ});
      at = two_more f c.loop-r.moved_rows r _ _ c.loop-r.invariant.sized (omega arith)
          (later_row c.args.v (r - 2) (2 * r) (2 * r - 2) rows _ c.requires.rows
          (omega (arith, inside)) (omega (arith, inside)) (omega arith) (omega arith) (omega arith)
          (search rules)
          (lane_in_pair _ _ _ _ _ _ 0 c.lower-in-loop-r.ensures
          (c.load-in-loop-r.ensures 0 (omega arith) ∙ ap (λ p. get_or rows p []) here)
          (c.load-in-loop-r-2.ensures 0 (omega arith) ∙ ap (λ p. get_or rows p []) there)
          c.moved-pair-in-loop-r.ensures))
          (later_row c.args.v (r + 6) (2 * r + 1) (2 * r - 2 + 1) rows _ c.requires.rows
          (omega (arith, inside)) (omega (arith, inside)) (omega arith) (omega arith) (omega arith)
          (search rules)
          (lane_in_pair _ _ _ _ _ _ 1 c.upper-in-loop-r.ensures
          (c.load-in-loop-r.ensures 1 (omega arith)) (c.load-in-loop-r-2.ensures 1 (omega arith))
          c.moved-pair-in-loop-r.ensures))
          c.loop-r.invariant.at;
    }

pub returns : goal.returns
unfolding multiples_rows
returns c =
    sym (build_is 16 (λ i. multiples_row (v_at c.args.v 4) (row_at i)) c.loop-r.moved_rows []
    c.loop-r.invariant.sized
    (λ r h. sym (c.loop-r.invariant.at r (omega arith))))
