-- What private functions do on the way: no public contract names it.
use Rattle.std.specs.Prelude.{ℕ, List, [], ◌∷◌, ◌++◌, Option, Some, None, slice_index_or, take}
use Rattle.std.specs.Int.{w32, to_le_bytes}
use Rattle.gcm_siv.specs.GcmSiv.{derived}

-- the blocks that are encrypted for the keys of a message
unfoldable pub numbered : List ℕ → List (List ℕ)
numbered nonce =
    (to_le_bytes w32 0 ++ nonce) ∷ (to_le_bytes w32 1 ++ nonce) ∷ (to_le_bytes w32 2 ++ nonce)
    ∷ (to_le_bytes w32 3 ++ nonce) ∷ (to_le_bytes w32 4 ++ nonce)
    ∷ (to_le_bytes w32 5 ++ nonce) ∷ []

-- the first halves of two blocks
abbrev pub halves : List (List ℕ) → ℕ → ℕ → List ℕ
halves blocks i j = take 8 (slice_index_or blocks i []) ++ take 8 (slice_index_or blocks j [])

-- the first halves of six blocks, two by two
unfoldable pub halves_of_six : List (List ℕ) → List (List ℕ)
halves_of_six blocks = halves blocks 0 1 ∷ halves blocks 2 3 ∷ halves blocks 4 5 ∷ []

-- the derived keys, sixteen bytes each
unfoldable pub derived_keys : List (List ℕ) → List ℕ → List (List ℕ)
unfolding derived
derived_keys w nonce =
    (derived w nonce 0 ++ derived w nonce 1) ∷ (derived w nonce 2 ++ derived w nonce 3)
    ∷ (derived w nonce 4 ++ derived w nonce 5) ∷ []

-- the key of a cipher, where there is one
unfoldable pub key_of_some : {C : Type 0} → (C → List ℕ) → Option C → List ℕ
key_of_some key (Some cipher) = key cipher
key_of_some key None = []
