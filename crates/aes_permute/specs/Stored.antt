-- How states and round keys are kept: what a byte of each stands for.
use Rattle.std.specs.Prelude.{◌≡◌, ℕ, ◌<◌, ◌≤◌, ◌%◌, ◌==◌, if◌then◌else◌, List, length, map}
use Rattle.aes_planes.specs.Fips197 as fips
use Rattle.aes_planes.specs.Planes.{plus63}
use Rattle.aes_permute.specs.Lookup.{by_nibbles}
use Rattle.aes_permute.specs.declared.tables.TheConstants.{UNTOWER_LOW, UNTOWER_HIGH, INV_UNTOWER_LOW, INV_UNTOWER_HIGH}

-- a byte of a state of Cipher, kept in the tower basis
unfoldable pub untower : ℕ → ℕ
untower b = by_nibbles UNTOWER_LOW UNTOWER_HIGH b

-- a byte in the basis of EqInvCipher, where the constant of the S-box is not added
abbrev pub inv_untower : ℕ → ℕ
inv_untower b = by_nibbles INV_UNTOWER_LOW INV_UNTOWER_HIGH b

-- a byte of a state of EqInvCipher, or of a round key of its inner rounds
unfoldable pub decryption_untower : ℕ → ℕ
decryption_untower b = plus63 (inv_untower b)

-- a byte of a round key of Cipher's inner rounds: the constant of the S-box is added with it
unfoldable pub key_untower : ℕ → ℕ
unfolding untower
key_untower b = plus63 (untower b)

-- a byte that stands for itself
abbrev pub as_is : ℕ → ℕ
as_is b = b

-- the form in which a direction stores round keys
pub record LaneForm : Type 0 where
  -- what a byte of the first, of one between and of the last stands for
  pub first_byte : ℕ → ℕ
  pub inner_byte : ℕ → ℕ
  pub last_byte : ℕ → ℕ
  -- where the bytes of a state after a number of rounds belong, and those of the round key that is
  -- added then
  pub placed : ℕ → List ℕ → List ℕ
  -- the round keys that the rounds use, in their order, of the standard's list
  pub direction_keys : List (List ℕ) → List (List ℕ)

-- what stored round key i stands for, by the number of the last
abbrev pub key_of : LaneForm → ℕ → ℕ → List ℕ → List ℕ
key_of form last i key = if i == 0 then map form.first_byte key else if i == last then map form.last_byte key
    else form.placed i (map form.inner_byte key)

-- the round keys that stored ones stand for, in their order of use
unfoldable pub round_keys_of : LaneForm → List (List ℕ) → List (List ℕ)
unfolding fips.build
round_keys_of form stored =
    fips.build (length stored) (λ i. key_of form (fips.last_round stored) i (fips.round_key stored i))

-- stored round key i of Cipher, of those written one by one from 0 to a last one, stands for a
-- block
pub record IsWritten (stored : List (List ℕ)) (last i : ℕ) (x : List ℕ) : Type 0 where
  pub first : i ≡ 0 → fips.round_key stored i ≡ x
  pub between : 1 ≤ i → i < last → fips.shift_times (i % 4) (map key_untower (fips.round_key stored i)) ≡ x
  pub at_last : i ≡ last → map plus63 (fips.round_key stored i) ≡ x
