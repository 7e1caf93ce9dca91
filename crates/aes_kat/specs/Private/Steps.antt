-- What the steps to a reply give.
use Rattle.std.specs.Prelude.{ℕ, ◌≤◌, ◌≡◌, List, [], take, Result, Ok, Err, MatchResult}
use Rattle.hex.specs.Hex.{decode_of}
use Rattle.hex.specs.declared.error.FromHexError.{FromHexError}
use Rattle.aes_kat.specs.declared.faults.Fault.{Fault}

-- the bytes, or none where there is an error
abbrev pub or_none : Result (List ℕ) FromHexError → List ℕ
or_none (Ok bytes) = bytes
or_none (Err error) = []

-- the bytes of a word of digits
abbrev pub decoded : List ℕ → List ℕ
decoded word = or_none (decode_of word)

-- the outcome is the answer of this length at the front of the buffer, or this fault
abbrev pub IsAnswered : Result (List ℕ) Fault → Result ℕ Fault → List ℕ → Type 0
IsAnswered outcome written buffer =
    MatchResult written (λ n. (n ≤ 2048) × (outcome ≡ Ok (take n buffer))) (λ problem. outcome ≡ Err problem)
