-- The reply of a round of EqInvCipher: its substitution is computed by itself, and then the other
-- steps.
use Rattle.std.proofs.Common.{◌≡◌, List, ℕ, refl, ap}
use Rattle.hex.specs.Hex.{encode_lower}
use Rattle.aes_planes.specs.BigEndian.{bytes}
use Rattle.aes_planes.specs.Fips197.{add_round_key, inv_shift_rows, inv_sub_bytes}
use Rattle.aes_planes.specs.Fips197.{inv_mix_columns}
use Rattle.aes_planes.proofs.OnLiterals.{aes_by_table, aes_on_literals}
use Rattle.aes_planes.proofs.Standard.ByTable.{inv_sub_bytes_tells}
use Rattle.aes_kat.proofs.OnLiterals.{replies_on_literals}
use Rattle.aes_kat.proofs.examples.round_replies.Goals as goal

-- the key of round 1 of the equivalent inverse cipher
abbrev inverse_key : List ℕ
inverse_key = bytes 16 0x13aa29be9c8faff6f770f58000f7bf03

-- InvSubBytes of the block of the example, by the table
inv_substituted : inv_sub_bytes (bytes 16 0x7ad5fda789ef4e272bca100b3d9ff59f)
    ≡ bytes 16 0xbdb52189f261b63d0b107c9e8b6e776e
unfolding aes_by_table
inv_substituted = inv_sub_bytes_tells _ _ refl

pub returns-clause-invround : goal.returns-clause-invround
unfolding replies_on_literals aes_on_literals inv_shift_rows inv_mix_columns
returns-clause-invround c =
    ap (λ b. encode_lower
    (add_round_key (inv_mix_columns (inv_shift_rows b)) inverse_key)) inv_substituted
