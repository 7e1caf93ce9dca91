use Rattle.std.proofs.Common.{◌≡◌, ◌+◌, ◌*◌, map}
use Rattle.aes_planes.specs.Fips197.{state_after, key_expansion}
use Rattle.aes_planes.specs.Planes.{held}
use Rattle.aes_soft.specs.Stored.{deferred, key_of, key_size}
use Rattle.aes_soft.proofs.soft.ciphers.planes.EncryptPlaneCipher.process_planes.Given as goal

abbrev pub invariant-whole_periods : goal.invariant-whole_periods
invariant-whole_periods g l = record {
  blocks : held g.W.Word.BLOCKS (map g.W.Word.bits l.planes)
      ≡ map (λ b. state_after (key_expansion (key_of (key_size l.rounds) g.W.Word.BLOCKS
      (deferred g.L.Layout.PERIOD l.rounds) (map g.W.Word.bits l.round_keys))) b
      (l.period * l.past))
      (held g.W.Word.BLOCKS (map g.W.Word.bits l.fn.state));
  layers : l.layers ≡ l.fn.layers + l.period * l.past;
}
