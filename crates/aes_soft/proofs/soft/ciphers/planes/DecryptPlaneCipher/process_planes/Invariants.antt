use Rattle.std.proofs.Common.{◌≡◌, ◌+◌, ◌-◌, ◌*◌, map}
use Rattle.aes_planes.specs.Fips197.{inv_state_after, inv_sub_bytes, inv_shift_times, key_expansion}
use Rattle.aes_planes.specs.Planes.{held}
use Rattle.aes_soft.specs.Stored.{deferred, key_of, key_size}
use Rattle.aes_soft.proofs.soft.ciphers.planes.DecryptPlaneCipher.process_planes.Given as goal

abbrev pub invariant-whole_periods : goal.invariant-whole_periods
invariant-whole_periods g l =
    let left = l.period * (l.periods - l.past) in
    record {
      blocks : held g.W.Word.BLOCKS (map g.W.Word.bits l.planes)
          ≡ map (λ b. inv_shift_times 1
          (inv_sub_bytes (inv_state_after (key_expansion (key_of (key_size l.rounds) g.W.Word.BLOCKS
          (deferred g.L.Layout.PERIOD l.rounds) (map g.W.Word.bits l.round_keys))) b
          (l.rounds - 1 - left))))
          (held g.W.Word.BLOCKS (map g.W.Word.bits l.fn.state));
      layers : l.layers ≡ l.fn.layers + (l.rounds - left);
    }
