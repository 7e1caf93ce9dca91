-- What a proof unfolds to compute what a struct stores.
use Rattle.std.specs.Prelude.{⊤}
use Rattle.aes_planes.proofs.OnLiterals.{inverted_on_literals}
use Rattle.aes_permute.proofs.OnLiterals.{room_on_literals}

-- the definitions to unfold, so that the key which stored literals are read as is computed
unfoldable pub kept_on_literals : ⊤
unfolding inverted_on_literals room_on_literals
kept_on_literals = tt
