-- Cipher block chaining (SP 800-38A, 6.2), under a list of round keys.
use Rattle.std.specs.Prelude.{ℕ, List, [], ◌∷◌}
use Rattle.aes_planes.specs.Fips197 as fips

-- encryption: each block is summed with the encrypted block before it, the first with the
-- initialization vector, and encrypted
unfoldable pub chained : List (List ℕ) → List ℕ → List (List ℕ) → List (List ℕ)
chained w previous [] = []
chained w previous (b ∷ bs) = let c = fips.cipher_with w (fips.add_round_key b previous) in c ∷ chained w c bs

-- decryption: each block is decrypted, and summed with the encrypted block before it, the first
-- with the initialization vector
unfoldable pub unchained : List (List ℕ) → List ℕ → List (List ℕ) → List (List ℕ)
unchained w previous [] = []
unchained w previous (c ∷ cs) = fips.add_round_key (fips.inv_cipher_with w c) previous ∷ unchained w c cs

-- the last of the blocks, or the one before them if there are none
unfoldable pub last_of : List ℕ → List (List ℕ) → List ℕ
last_of previous [] = previous
last_of previous (c ∷ cs) = last_of c cs
