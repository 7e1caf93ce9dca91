-- What a proof unfolds to compute what stored bytes stand for.
use Rattle.std.specs.Prelude.{⊤}
use Rattle.aes_planes.specs.BigEndian.{bytes}
use Rattle.aes_planes.specs.Fips197.{build, shift_rows, shift_times, inv_shift_rows}
use Rattle.aes_planes.specs.Fips197.{inv_shift_times, state}
use Rattle.aes_permute.specs.Keys.{key_of_lanes}
use Rattle.aes_permute.specs.Stored.{untower, decryption_untower, key_untower, round_keys_of}

-- the definitions to unfold, so that what literal round keys stand for is computed
unfoldable pub stored_on_literals : ⊤
unfolding bytes build state shift_rows shift_times inv_shift_rows inv_shift_times untower decryption_untower key_untower round_keys_of
stored_on_literals = tt

-- what a proof unfolds so that the key which literals in room are read as is computed
unfoldable pub room_on_literals : ⊤
unfolding stored_on_literals key_of_lanes
room_on_literals = tt
