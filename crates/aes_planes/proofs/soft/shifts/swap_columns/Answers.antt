use Rattle.std.proofs.Common.{[], ◌∷◌, refl}
use Rattle.aes_planes.proofs.Bits.BitCases.{list_of_eight}
use Rattle.aes_planes.proofs.Bits.ByteCases.{by_eight}
use Rattle.aes_planes.proofs.Shifts.ColumnSwaps.{swapped_held}
use Rattle.aes_planes.proofs.soft.shifts.swap_columns.Goals as goal

pub returns : goal.returns
returns g c = λ d nibbles dl es ok masked.
    let new = c.delta_swap_1-swapped0.result ∷ c.delta_swap_1-swapped1.result
    ∷ c.delta_swap_1-swapped2.result
    ∷ c.delta_swap_1-swapped3.result ∷ c.delta_swap_1-swapped4.result
    ∷ c.delta_swap_1-swapped5.result
    ∷ c.delta_swap_1-swapped6.result ∷ c.delta_swap_1-swapped7.result ∷ [] in
    swapped_held g.met.W.Word.shape _ new c.delta_swap_1-swapped0.result d nibbles dl es ok masked
    (list_of_eight _ _ _ _ _ _ _ _ _ c.told-state) refl refl
    (by_eight _ c.delta_swap_1-swapped0.ensures c.delta_swap_1-swapped1.ensures
    c.delta_swap_1-swapped2.ensures
    c.delta_swap_1-swapped3.ensures c.delta_swap_1-swapped4.ensures c.delta_swap_1-swapped5.ensures
    c.delta_swap_1-swapped6.ensures c.delta_swap_1-swapped7.ensures)
