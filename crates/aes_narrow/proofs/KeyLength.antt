-- How long the key is that kept words are read as.
use Rattle.std.proofs.Common.{◌≡◌, ℕ, ◌≤◌, Bool, List, length, map, ◌∙◌, arith}
use Rattle.aes_cipher.specs.KeySizes.{IsKeySize}
use Rattle.aes_soft.specs.Stored.{key_of_planes, size_of, words_for}
use Rattle.aes_soft.proofs.KeyOfPlanes.{length-key_of}

-- the key that kept words are read as has the size for which there are so many words
pub sized_key : {W : Type 0} (bits : W → List Bool) (n size : ℕ) (words : List W) → 1 ≤ n
    → IsKeySize size → length words ≡ words_for size → length (key_of_planes bits n words) ≡ size
sized_key bits n size words some known count =
    let sized : size_of (length words) ≡ size = omega (arith, known, count) in
    length-key_of (size_of (length words)) n _ (map bits words) some (omega (arith, sized, known))
    ∙ sized
