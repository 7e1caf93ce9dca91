-- Room with multiples of H, H^2 and H^3 hashes bytes and the block of lengths behind them.
use Rattle.std.proofs.Common.{ℕ, ◌/◌, ◌∙◌, List, bit_xor, length}
use Rattle.std.specs.Int.{w128, from_be_bytes}
use Rattle.aes_cipher.specs.Blocks.{padded}
use Rattle.gcm.specs.Gcm.{product}
use Rattle.gcm.specs.Hashed.{hashed_as}
use Rattle.gcm.specs.Multiples.{subkey_in}
use Rattle.gcm.proofs.Messages.Hashing.{hashed_is}
use Rattle.gcm.proofs.hash_room.MultiplesRoomHashRoom.hash_to_end.Goals as goal

pub returns : goal.returns
returns c =
    let x : List ℕ = padded c.args.bytes.now in
    let n : ℕ = length x / 16 in
    let h = c.new-multiples.ensures in
    c.number_of.ensures ∙ c.hash_string_and_end.ensures
    ∙ (λ t. product (bit_xor ((
    (λ u. hashed_as (from_be_bytes w128) (h u) (c.vector_of-value.ensures.back u) x n)
    ∙ hashed_is (subkey_in c.args.self.now) c.args.value x n) t)
    (from_be_bytes w128 c.args.end.now)) (h t))
