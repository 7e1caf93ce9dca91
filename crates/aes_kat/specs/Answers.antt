-- The answers to a text, and what a run does.
use Rattle.std.specs.Prelude.{ℕ, List, [], ◌∷◌, ◌++◌, ◌≡◌, Bool, Option, Result, Ok, Err, IfSome}
use Rattle.std.specs.List.{flat_map, list_any}
use Rattle.std.specs.Io.KnownBytes.{Appends, IsAtEnd}
use Rattle.aes_kat.specs.declared.runs.Failed.{Failed}
use Rattle.aes_kat.specs.Lines.{lines_of}
use Rattle.aes_kat.specs.Reply.{reply_to, is_fault}

-- the replies to the lines of a text, each followed by a line end
unfoldable pub answers_to : List ℕ → List ℕ
answers_to text = flat_map (λ line. reply_to line ++ 10 ∷ []) (lines_of text)

-- whether the reply to some line of a text reports a fault
unfoldable pub has_fault : List ℕ → Bool
has_fault text = list_any is_fault (lines_of text)

-- `all` begins with `front`
abbrev pub BeginsWith : List ℕ → List ℕ → Type 0
BeginsWith all front = (rest : List ℕ) × (all ≡ front ++ rest)

-- the known bytes grew by a beginning of `all`
abbrev pub AppendsBeginning : Option (List ℕ) → Option (List ℕ) → List ℕ → Type 0
AppendsBeginning old new all = (front : List ℕ) × Appends old new front × BeginsWith all front

-- What a run does to known bytes: it answers all of the input, to its end, and returns whether some
-- line was a fault; or it fails, and has written a beginning of the answers.
abbrev pub Runs : Result Bool Failed → Option (List ℕ) → Option (List ℕ) → Option (List ℕ) → Option (List ℕ) → Type 0
Runs (Ok fault) input left output written =
    IsAtEnd left × IfSome input (λ text. Appends output written (answers_to text) × (fault ≡ has_fault text))
Runs (Err failed) input left output written = IfSome input (λ text. AppendsBeginning output written (answers_to text))
