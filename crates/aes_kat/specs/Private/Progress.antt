-- What a part of a run has done.
use Rattle.std.specs.Prelude.{ℕ, List, ◌++◌, ◌≡◌, Bool, ◌||◌, Option}
use Rattle.std.specs.Io.KnownBytes.{Appends}
use Rattle.aes_kat.specs.Answers.{answers_to, has_fault, BeginsWith}

-- A part of a run found the text `before` to answer, and leaves the text `after`. It wrote
-- `written`, and `fault` says whether it met a fault. Whatever text comes next, all answers are what
-- it wrote and then the answers to what it leaves. There is a fault if it met one, or if what it
-- leaves has one.
pub record Answered (before after written : List ℕ) (fault : Bool) : Type 0 where
  pub answers : (next : List ℕ) → answers_to (before ++ next) ≡ written ++ answers_to (after ++ next)
  pub faults : (next : List ℕ) → has_fault (before ++ next) ≡ (fault || has_fault (after ++ next))

-- what is gathered grew by what `before` asks for and `after` does not ask for any more
abbrev pub Gathers : List ℕ → List ℕ → List ℕ → List ℕ → Bool → Type 0
Gathers old new before after fault = (written : List ℕ) × (new ≡ old ++ written) × Answered before after written fault

-- the known bytes grew by what `before` asks for and `after` does not ask for any more
abbrev pub Advances : Option (List ℕ) → Option (List ℕ) → List ℕ → List ℕ → Bool → Type 0
Advances old new before after fault = (written : List ℕ) × Appends old new written × Answered before after written fault

-- the known bytes grew by a beginning of the answers to `before` and any text after it
abbrev pub StopsWithin : Option (List ℕ) → Option (List ℕ) → List ℕ → Type 0
StopsWithin old new before =
    (front : List ℕ) × Appends old new front × ((next : List ℕ) → BeginsWith (answers_to (before ++ next)) front)
