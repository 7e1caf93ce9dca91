use Rattle.std.proofs.Common.{refl}
use Rattle.aes_planes.proofs.Bits.ByteCases.{by_four}
use Rattle.aes_planes.proofs.Words.Packing.{word_to_four}
use Rattle.aes_planes.proofs.soft.word.word32.block_of.Goals as goal

pub returns : goal.returns
returns c = by_four _
    (word_to_four _ _ _ c.to_le_bytes.ensures refl refl refl refl)
    (word_to_four _ _ _ c.to_le_bytes-2.ensures refl refl refl refl)
    (word_to_four _ _ _ c.to_le_bytes-3.ensures refl refl refl refl)
    (word_to_four _ _ _ c.to_le_bytes-4.ensures refl refl refl refl)
