-- The stored round keys of A.1 are a schedule, and those of the other direction their inverse.
use Rattle.std.proofs.Common.{ℕ, List, inl, refl}
use Rattle.aes_planes.specs.BigEndian.{bytes}
use Rattle.aes_planes.proofs.Standard.States.{bytes_by_test}
use Rattle.aes_permute.proofs.KeyOfLanes.{expansion_read}
use Rattle.aes_hybrid.proofs.examples.struct_example.Goals as goal

pub returns : goal.returns
unfolding bytes
returns c =
    let key : List ℕ = bytes 16 0x2b7e151628aed2a6abf7158809cf4f3c in
    record {
      forward = record {
        schedule = λ _. expansion_read _ key (inl refl)
            (bytes_by_test key refl) c.stored_example.ensures.round_keys;
      };
      inverse = λ _. c.stored_example.ensures.inverse;
    }
