-- After i bits: what is left of the block, Z_i, and V_i.
use Rattle.std.proofs.Common.{◌≡◌, ◌*◌, ◌%◌, ◌^◌}
use Rattle.gcm.specs.Gcm.{v_at, z_at}
use Rattle.gcm.proofs.bitwise.product_bitwise.Given as goal

abbrev pub invariant-loop-i : goal.invariant-loop-i
invariant-loop-i l = record {
  left : l.left ≡ l.x * 2 ^ l.i % 2 ^ 128;
  sum : l.z ≡ z_at l.x l.h l.i;
  multiple : l.v ≡ v_at l.h l.i;
}
