-- Lines and words: the parts of a text between its separators.
use Rattle.std.specs.Prelude.{ℕ, List, [], ◌∷◌, ◌==◌, ◌≡◌, false, All}
use Rattle.std.specs.List.{slice_split}

-- the parts of a text between the bytes that equal `separator`: always one or more
abbrev pub parts_at : ℕ → List ℕ → List (List ℕ)
parts_at separator text = slice_split (λ b. b == separator) text

-- the part alone, or nothing if it is empty
abbrev pub unless_empty : List ℕ → List (List ℕ)
unless_empty [] = []
unless_empty (x ∷ part) = (x ∷ part) ∷ []

-- the parts, without the last one if that is empty
abbrev pub without_empty_last : List (List ℕ) → List (List ℕ)
without_empty_last [] = []
without_empty_last (part ∷ []) = unless_empty part
without_empty_last (part ∷ next ∷ more) = part ∷ without_empty_last (next ∷ more)

-- the lines of a text: its parts between line ends, an empty last one dropped
unfoldable pub lines_of : List ℕ → List (List ℕ)
lines_of text = without_empty_last (parts_at 10 text)

-- the words of a line: its parts between single spaces, empty ones kept
abbrev pub words_of : List ℕ → List (List ℕ)
words_of line = parts_at 32 line

-- no byte of the text is `separator`
abbrev pub Lacks : ℕ → List ℕ → Type 0
Lacks separator text = All (λ b. (b == separator) ≡ false) text
