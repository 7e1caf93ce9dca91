-- What holds under equal keys.
use Rattle.std.proofs.Common.{◌≡◌, subst}

-- what a call says of the message that it was given and of the one that it leaves, said under an
-- equal key
pub carried : {A B : Type 0} (P Q : A → B → Type 0) (w w' : A) (m n : B) → w ≡ w' → (P w m → Q w n)
    → P w' m → Q w' n
carried P Q w w' m n key f = subst (λ v. P v m → Q v n) key f
