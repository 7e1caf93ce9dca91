-- A message has begun with no byte.
use Rattle.std.proofs.Common.{refl, ap, take}
use Rattle.cmac.specs.Chain.{chained}
use Rattle.cmac.specs.Cmac.{before_last}
use Rattle.cmac.proofs.pieces.Message.begin.Goals as goal

pub returns : goal.returns
unfolding chained before_last
returns c w =
    record {
      begun = refl;
      chaining = record {
        value = ap (λ k. k.value) c.zero-self.ensures;
        rest_length = ap (λ k. k.rest_length) c.zero-self.ensures;
        rest = ap (λ k. take k.rest_length k.rest) c.zero-self.ensures;
      };
    }
