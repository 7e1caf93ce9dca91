-- The digits of the blocks so far are written, 32 of each.
use Rattle.std.proofs.Common.{◌≡◌, ◌*◌, take}
use Rattle.std.specs.List.{flat_map}
use Rattle.hex.specs.Hex.{encode_lower}
use Rattle.aes_kat.proofs.digits.write_joined.Given as goal

abbrev pub invariant-loop-block : goal.invariant-loop-block
invariant-loop-block l = record {
  place : l.end ≡ 32 * l.block-index;
  text : take l.end l.out ≡ flat_map encode_lower (take l.block-index l.blocks);
}
