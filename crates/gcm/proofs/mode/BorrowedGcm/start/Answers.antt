-- A message has begun with no additional data.
use Rattle.std.proofs.Common.{arith, refl}
use Rattle.gcm.specs.Gcm.{hashed}
use Rattle.gcm.proofs.mode.BorrowedGcm.start.Goals as goal

pub returns-clause-begun : goal.returns-clause-begun
unfolding hashed
returns-clause-begun g c =
    record {
      phase = c.number_of_phase-message.ensures;
      first = c.put_pre_counter.ensures;
      additional = refl;
      short = omega arith;
      text = refl;
      decrypted = refl;
      hashing = record { value = c.block_of_number-message.ensures.back; rest = refl };
    }
