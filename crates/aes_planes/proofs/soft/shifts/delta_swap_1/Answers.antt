use Rattle.std.proofs.Common.{◌-◌, ◌<◌, refl, arith}
use Rattle.aes_planes.proofs.soft.shifts.delta_swap_1.Goals as goal

pub returns : goal.returns
returns g c = λ i h.
    let j = i - c.args.shift in
    let under : j < g.W.Word.BITS = omega arith in
    rw (
      c.bit_xor.ensures i h,
      c.bit_xor-low.ensures i h,
      c.bit_and-moved.ensures i h,
      c.bit_xor-differ.ensures i h,
      c.shift_right-above.ensures i h,
      c.shift_left-up.ensures i h,
      c.bit_and-moved.ensures j under,
      c.bit_xor-differ.ensures j under,
      c.shift_right-above.ensures j under,
    ) refl
