-- The digits of the blocks so far are written, 32 of each and a space behind them.
use Rattle.std.proofs.Common.{◌≡◌, ◌*◌, ◌∷◌, ◌++◌, [], take, length}
use Rattle.std.specs.List.{flat_map}
use Rattle.hex.specs.Hex.{encode_lower}
use Rattle.aes_kat.proofs.digits.write_spaced.Given as goal

abbrev pub invariant-loop-block : goal.invariant-loop-block
invariant-loop-block l = record {
  room : length l.out ≡ 2048;
  place : l.end ≡ 33 * l.block-index;
  text : take l.end l.out ≡ flat_map (λ block. encode_lower block ++ 32 ∷ [])
      (take l.block-index l.blocks);
}
