use Rattle.std.proofs.Common.{map, refl, sym, subst}
use Rattle.aes_planes.specs.Words.{word_bits}
use Rattle.aes_soft.specs.declared.examples.TheConstants.{COMPACT_WORDS}
use Rattle.aes_soft.specs.Stored.{compact, HoldsKeys}
use Rattle.aes_soft.proofs.OnLiterals.{stored_on_literals, below_tells}
use Rattle.aes_soft.proofs.examples.compact_words.Goals as goal

pub returns : goal.returns
unfolding stored_on_literals
returns c =
    subst (λ w. HoldsKeys 1 (compact 10) w (map (word_bits 16) COMPACT_WORDS))
    (sym c.zero_key_expansion.ensures)
    (below_tells 11 _ (
      (
        (((((((((tt, refl), refl), refl), refl), refl), refl), refl), refl), refl),
        refl,
      ),
      refl,
    ))
