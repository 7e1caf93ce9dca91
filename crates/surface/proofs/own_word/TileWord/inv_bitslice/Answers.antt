use Rattle.std.proofs.Common.{map, ap, sym, ◌∙◌}
use Rattle.aes_planes.specs.Planes.{held}
use Rattle.aes_planes.specs.Words.{word_bits}
use Rattle.aes_planes.proofs.Bits.BitCases.{list_of_eight}
use Rattle.surface.specs.declared.own_word.Tile.{Tile}
use Rattle.surface.proofs.own_word.TileWord.inv_bitslice.Goals as goal

-- the eight words, one by one, are the list of them
pub returns : goal.returns
returns c = let none : Tile = record { bits = 0 } in c.inv_bitslice.ensures
    ∙ ap (λ tiles. held 1 (map (λ tile. word_bits 16 tile.bits) tiles))
    (sym (list_of_eight c.args.input.now none none none none none none none none c.told-input))
