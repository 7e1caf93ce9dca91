-- AES-GCM-SIV on literals: what a lemma unfolds to compute it, and a text by the ciphers of its
-- counter blocks.
use Rattle.std.proofs.Common.{◌≡◌, ℕ, ◌*◌, ◌<◌, ◌≤◌, List, [], length, slice_index_or, ap, sym, ◌∙◌}
use Rattle.std.proofs.Common.{arith}
use Rattle.std.specs.Prelude.{⊤}
use Rattle.aes_planes.specs.BigEndian.{bytes}
use Rattle.aes_planes.specs.Fips197.{build, build_from, state, add_round_key, cipher, cipher_with}
use Rattle.aes_ctr.specs.CounterMode.{plus_stream}
use Rattle.aes_ctr.specs.Private.{byte_of_blocks}
use Rattle.aes_ctr.proofs.Places.{plus_blocks}
use Rattle.aes_cipher.specs.Blocks.{padded}
use Rattle.gcm_siv.specs.GcmSiv.{times_x, times_power, times_below, times, dot, block_at, polyval_after}
use Rattle.gcm_siv.specs.GcmSiv.{polyval, derived, authentication_key, encryption_key, counter}
use Rattle.gcm_siv.specs.GcmSiv.{counter_block, keystream_byte, counter_mode, length_block, hash}
use Rattle.gcm_siv.specs.GcmSiv.{tag_input, tag_under, first_counter, text_under, tag, text}
use Rattle.gcm_siv.proofs.CounterBlocks.{mode_is}

-- the definitions to unfold, but for the cipher
unfoldable pub siv_on_literals : ⊤
unfolding bytes build build_from state add_round_key plus_stream byte_of_blocks padded times_x times_power times_below times dot
    block_at polyval_after polyval derived authentication_key encryption_key counter counter_block
    length_block hash tag_input tag_under
    first_counter text_under tag text
siv_on_literals = tt

-- the definitions of POLYVAL, one step of each
unfoldable pub polyval_steps : ⊤
unfolding block_at polyval_after polyval
polyval_steps = tt

-- the definitions of a message under its keys, down to the cipher of a key
unfoldable pub siv_messages : ⊤
unfolding cipher hash tag_under tag keystream_byte counter_mode text_under text
siv_messages = tt

-- a text in counter mode follows from the ciphers of its counter blocks
pub blocks_by : (w : List (List ℕ)) (start : List ℕ) (blocks : List (List ℕ)) (x : List ℕ)
    → ((m : ℕ) → m < length blocks → slice_index_or blocks m []
    ≡ cipher_with w (counter_block start m))
    → length x ≤ 16 * length blocks → counter_mode w start x
    ≡ plus_stream (byte_of_blocks blocks) 0 x
blocks_by w start blocks x at within =
    sym (mode_is w start x)
    ∙ plus_blocks w (counter_block start) blocks 0 x
    (λ m h. at m h ∙ ap (λ q. cipher_with w (counter_block start q)) (omega arith))
    (omega (arith, within))
