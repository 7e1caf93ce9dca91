-- A product by the multiples of H that the room has.
use Rattle.std.proofs.Common.{◌∙◌}
use Rattle.gcm.specs.Gcm.{product}
use Rattle.gcm.proofs.hash_room.MultiplesRoomHashRoom.product.Goals as goal

pub returns : goal.returns
returns c =
    c.number_of.ensures ∙ c.block_product.ensures
    ∙ (λ t. product (c.vector_of.ensures.back t) (c.new.ensures t))
