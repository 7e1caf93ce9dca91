-- Stored round keys, written one by one.
use Rattle.std.proofs.Common.{◌≡◌, ℕ, ◌+◌, ◌≤◌, List, length, map-id, refl, ◌∙◌, arith}
use Rattle.aes_planes.specs.Fips197 as fips
use Rattle.aes_planes.proofs.KeySchedule.ExpansionLength.{length-key_expansion}
use Rattle.aes_planes.proofs.Standard.CipherLaws.{two_expanded}
use Rattle.aes_permute.specs.Keys.{cipher_form}
use Rattle.aes_permute.specs.Stored.{round_keys_of, IsWritten}
use Rattle.aes_permute.proofs.StoredStates.{stored_are}

-- stored round keys stand for those of a key, if each is written
pub written_are_used : (key : List ℕ) (stored : List (List ℕ)) (last : ℕ)
    → ((i : ℕ) → i ≤ last → IsWritten stored last i (fips.round_key (fips.key_expansion key) i))
    → last ≡ fips.rounds key → length stored ≡ last + 1
    → round_keys_of cipher_form stored ≡ fips.key_expansion key
written_are_used key stored last each e l =
    let w = fips.key_expansion key in
    let n : fips.last_round w ≡ last = omega (arith, length-key_expansion key, e) in
    stored_are cipher_form stored w (two_expanded key) (omega (arith, length-key_expansion key, e, l))
    (map-id _ ∙ (each 0 (omega arith)).first refl)
    (λ i some below. (each i (omega (arith, below, n))).between some (omega (arith, below, n)))
    ((each (fips.last_round w) (omega (arith, n))).at_last n)
