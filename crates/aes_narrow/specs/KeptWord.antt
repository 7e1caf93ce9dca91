-- What the word of a key that is kept holds: 32 bits, which are planes of two blocks.
use Rattle.std.specs.Prelude.{ℕ, Bool, List}
use Rattle.aes_planes.specs.Words.{word_bits}

-- the bits of a word
abbrev pub kept_bits : ℕ → List Bool
kept_bits = word_bits 32

-- how many blocks eight words hold
abbrev pub kept_blocks : ℕ
kept_blocks = 2
