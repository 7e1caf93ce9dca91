-- The words of the key of A.1, compared with its eleven round keys one by one.
use Rattle.std.proofs.Common.{map, refl, sym, subst}
use Rattle.aes_planes.specs.Words.{word_bits}
use Rattle.aes_narrow.specs.declared.examples.TheConstants.{WORDS}
use Rattle.aes_soft.specs.Stored.{full, HoldsKeys}
use Rattle.aes_soft.proofs.OnLiterals.{stored_on_literals, below_tells}
use Rattle.aes_narrow.proofs.examples.stored_example.Goals as goal

pub returns : goal.returns
unfolding stored_on_literals
returns c =
    subst (λ w. HoldsKeys 2 (full 10) w (map (word_bits 32) WORDS))
    (sym c.key_expansion_128.ensures)
    (below_tells 11 _ (
      (
        (((((((((tt, refl), refl), refl), refl), refl), refl), refl), refl), refl),
        refl,
      ),
      refl,
    ))
