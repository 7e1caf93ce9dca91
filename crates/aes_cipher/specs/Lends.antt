-- Values that are lent to be written over.
use Rattle.std.specs.Borrow.{Lends, Fml, RattleType, MutBor}
use Rattle.aes_cipher.specs.declared.zeroize.Zeroize.{Ghosts}
use Rattle.aes_cipher.specs.contracts.zeroize.Wiped as wiped
use Rattle.aes_cipher.specs.contracts.zeroize.must_wipe.MustWipe as must_wipe

module _ (V : RattleType) (zeroize : Ghosts V.Denot) (value : MutBor V.Denot) where
  -- once the borrow r ends, the value that is wiped when it is dropped is what was written through
  -- r
  abbrev pub lends_value : MutBor V.Denot → Fml
  lends_value r = Lends (wiped.the_row V zeroize) V value r (λ written. written)

  -- once the borrow r ends, the value that is dropped as zeros alone is what was written through r
  abbrev pub lends_must_wipe : MutBor V.Denot → Fml
  lends_must_wipe r = Lends (must_wipe.the_row V zeroize) V value r (λ written. written)
