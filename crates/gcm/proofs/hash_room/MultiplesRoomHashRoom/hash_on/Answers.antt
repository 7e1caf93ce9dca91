-- Room with multiples of H, H^2 and H^3 hashes bytes in GCM's order.
use Rattle.std.proofs.Common.{ℕ, ◌/◌, ◌∙◌, List, length}
use Rattle.std.specs.Int.{w128, from_be_bytes}
use Rattle.aes_cipher.specs.Blocks.{padded}
use Rattle.gcm.specs.Hashed.{hashed_as}
use Rattle.gcm.specs.Multiples.{subkey_in}
use Rattle.gcm.proofs.Messages.Hashing.{hashed_is}
use Rattle.gcm.proofs.hash_room.MultiplesRoomHashRoom.hash_on.Goals as goal

pub returns : goal.returns
returns c =
    let x : List ℕ = padded c.args.bytes.now in
    c.number_of.ensures ∙ c.hash_string.ensures
    ∙ (λ t. hashed_as (from_be_bytes w128) (c.new-multiples.ensures t)
    (c.vector_of.ensures.back t) x (length x / 16))
    ∙ hashed_is (subkey_in c.args.self.now) c.args.value x (length x / 16)
