-- Lemmas on what a part of the work has done.
use Rattle.std.proofs.Common.{◌≡◌, ℕ, List, [], ◌∷◌, ◌++◌, Bool, true, false, ◌||◌, Option, None}
use Rattle.std.proofs.Common.{Some, IfSome, Result, Ok, Err, OnErr, IsErr, refl, sym, ap, ◌∙◌}
use Rattle.std.proofs.Common.{subst, append_assoc, append-nil, length, take, ◌==◌, if◌then◌else◌}
use Rattle.std.proofs.Common.{ne_eqb, arith}
use Rattle.std.proofs.Math.Bool.{or-false}
use Rattle.std.proofs.lemmas.Grind.{common_steps}
use Rattle.std.proofs.lemmas.List.Elements.{All-append}
use Rattle.std.specs.List.{flat_map, list_any}
use Rattle.std.specs.Io.KnownBytes.{Appends, Consumes, IsAtEnd}
use Rattle.std.proofs.KnownBytes.{Appends-trans, Consumes-trans, Consumes-whole}
use Rattle.aes_kat.specs.declared.runs.Failed.{Failed}
use Rattle.aes_kat.specs.Lines.{Lacks, lines_of}
use Rattle.aes_kat.specs.Reply.{reply_to, is_fault}
use Rattle.aes_kat.specs.Answers.{answers_to, has_fault, AppendsBeginning, Runs}
use Rattle.aes_kat.specs.Private.Progress.{Answered, Gathers, Advances, StopsWithin}
use Rattle.aes_kat.proofs.Lines.{lines_of-cut, lines_of-last}

-- what holds anyway holds on an error
pub OnErr-from : {T E : Type 0} (r : Result T E) (P : Type 0) → P → OnErr r P
OnErr-from (Ok x) P p = tt
OnErr-from (Err e) P p = p

-- appending all of a text is appending a beginning of it
pub AppendsBeginning-whole : (a b : Option (List ℕ)) (xs : List ℕ) → Appends a b xs
    → AppendsBeginning a b xs
AppendsBeginning-whole a b xs h = (xs, h, ([], sym (append-nil xs)))

-- a text that is gathered from nothing is all that a slice of it has
pub only_gathered : (slice new old text : List ℕ) → slice ≡ new → new ≡ old ++ text → old ≡ []
    → slice ≡ text
only_gathered slice new old text all more none = all ∙ more ∙ ap (λ xs. xs ++ text) none

-- ---- the answers to a text

-- an or of three parts, from either end
or-assoc : (a b c : Bool) → ((a || b) || c) ≡ (a || (b || c))
or-assoc true b c = refl
or-assoc false b c = refl

-- a text that goes on isn't empty
some_byte : (x : ℕ) (text : List ℕ) → (length (x ∷ text) == 0) ≡ false
some_byte x text = ne_eqb _ _ (λ none. absurd (omega (arith, none)))

-- what follows the last line end is answered unless it is empty
pub rest_answered : (line : List ℕ) → Lacks 10 line
    → answers_to line ≡ (if length line == 0 then [] else reply_to line ++ 10 ∷ [])
unfolding answers_to lines_of
rest_answered [] lacks = refl
rest_answered (x ∷ line) lacks =
    ap (flat_map (λ l. reply_to l ++ 10 ∷ [])) (lines_of-last x line lacks)
    ∙ append-nil (reply_to (x ∷ line) ++ 10 ∷ [])
    ∙ ap (λ b. if b then [] else reply_to (x ∷ line) ++ 10 ∷ []) (sym (some_byte x line))

-- what follows the last line end is at fault if it is not empty and its line is
pub rest_faults : (line : List ℕ) → Lacks 10 line
    → has_fault line ≡ (if length line == 0 then false else is_fault line)
unfolding has_fault lines_of
rest_faults [] lacks = refl
rest_faults (x ∷ line) lacks =
    ap (list_any is_fault) (lines_of-last x line lacks) ∙ or-false (is_fault (x ∷ line))
    ∙ ap (λ b. if b then false else is_fault (x ∷ line)) (sym (some_byte x line))

-- what follows the last line end, with the steps that are common to all proofs
pub ruleset rest_calls = (rest_answered, rest_faults, common_steps)

-- one line is answered
Answered-line : (line after : List ℕ) → Lacks 10 line
    → Answered (line ++ 10 ∷ after) after (reply_to line ++ 10 ∷ []) (is_fault line)
unfolding answers_to has_fault
Answered-line line after lacks =
    let cut : (next : List ℕ) → lines_of ((line ++ 10 ∷ after) ++ next)
    ≡ line ∷ lines_of (after ++ next) =
    λ next. ap lines_of (append_assoc line (10 ∷ after) next)
    ∙ lines_of-cut line (after ++ next) lacks in
    record {
      answers = λ next. ap (flat_map (λ l. reply_to l ++ 10 ∷ [])) (cut next);
      faults = λ next. ap (list_any is_fault) (cut next);
    }

-- one part of the work after another
Answered-trans : (a b c w v : List ℕ) (fault more : Bool) → Answered a b w fault
    → Answered b c v more
    → Answered a c (w ++ v) (fault || more)
Answered-trans a b c w v fault more h k = record {
  answers = λ next.
      h.answers next ∙ ap (λ xs. w ++ xs) (k.answers next)
      ∙ sym (append_assoc w v (answers_to (c ++ next)));
  faults = λ next.
      h.faults next ∙ ap (λ f. fault || f) (k.faults next)
      ∙ sym (or-assoc fault more (has_fault (c ++ next)));
}

-- a part of the work stays done while more of the text is known
Answered-more : (a b w chunk : List ℕ) (fault : Bool) → Answered a b w fault
    → Answered (a ++ chunk) (b ++ chunk) w fault
Answered-more a b w chunk fault h = record {
  answers = λ next. simp append_assoc (h.answers (chunk ++ next));
  faults = λ next. simp append_assoc (h.faults (chunk ++ next));
}

-- ---- what is gathered

-- one more line is answered: what was begun, and the chunk up to the line end
pub Gathers-line : (a b c before begun front line rest after cleared : List ℕ) (fault is : Bool)
    → Gathers a b before (begun ++ rest) fault → Lacks 10 begun → Lacks 10 front
    → rest ≡ front ++ 10 ∷ after
    → line ≡ begun ++ front → c ≡ b ++ (reply_to line ++ 10 ∷ []) → is ≡ is_fault line
    → cleared ≡ []
    → Gathers a c before (cleared ++ after) (fault || is)
Gathers-line a b c before begun front line rest after cleared fault is h p q cut whole
    more told none =
    let all : begun ++ rest ≡ line ++ 10 ∷ after =
    ap (λ xs. begun ++ xs) cut ∙ sym (append_assoc begun front (10 ∷ after))
    ∙ ap (λ xs. xs ++ 10 ∷ after) (sym whole) in
    let lacks : Lacks 10 line =
    subst (Lacks 10) (sym whole) (All-append (λ b. (b == 10) ≡ false) begun front p q) in
    let answer = reply_to line ++ 10 ∷ [] in
    let done : Answered before after (h.0 ++ answer) (fault || is_fault line) =
    Answered-trans before (line ++ 10 ∷ after) after h.0 answer fault (is_fault line)
    (subst (λ xs. Answered before xs h.0 fault) all h.2) (Answered-line line after lacks) in (
      h.0 ++ answer,
      more ∙ ap (λ xs. xs ++ answer) h.1 ∙ append_assoc a h.0 answer,
      rw (none, told) done,
    )

-- ---- what is written

-- the output can stop where the work stands
pub StopsWithin-here : (a b : Option (List ℕ)) (before after : List ℕ) (fault : Bool)
    → Advances a b before after fault
    → StopsWithin a b before
StopsWithin-here a b before after fault h =
    (h.0, h.1, λ next. (answers_to (after ++ next), h.2.answers next))

-- the output can stop within what was gathered from nothing
pub StopsWithin-written : (a b : Option (List ℕ)) (none all before after : List ℕ)
    (fault : Bool) → none ≡ []
    → Gathers none all before after fault → AppendsBeginning a b all → StopsWithin a b before
StopsWithin-written a b none all before after fault e h stop =
    let within = rw (h.1, e) at stop in (
      within.0,
      within.1,
      λ next.
          let later = answers_to (after ++ next) in (
            within.2.0 ++ later,
            h.2.answers next ∙ ap (λ xs. xs ++ later) within.2.1
                ∙ append_assoc within.0 within.2.0 later,
          ),
    )

module _ (a b c : Option (List ℕ)) (before line : List ℕ) (fault : Bool)
    (h : Advances a b before line fault) where
  -- one chunk is worked on after the others
  pub Advances-chunk : (chunk after : List ℕ) (more : Bool)
      → Advances b c (line ++ chunk) after more
      → Advances a c (before ++ chunk) after (fault || more)
  Advances-chunk chunk after more k = (
    h.0 ++ k.0,
    Appends-trans a b c h.0 k.0 h.1 k.1,
    Answered-trans (before ++ chunk) (line ++ chunk) after h.0 k.0 fault more
        (Answered-more before line h.0 chunk fault h.2) k.2,
  )

  -- the output can stop within a chunk
  pub StopsWithin-chunk : (chunk : List ℕ) → StopsWithin b c (line ++ chunk)
      → StopsWithin a c (before ++ chunk)
  StopsWithin-chunk chunk stop = (
    h.0 ++ stop.0,
    Appends-trans a b c h.0 stop.0 h.1 stop.1,
    λ next.
        let rest = stop.2 next in (
          rest.0,
          (Answered-more before line h.0 chunk fault h.2).answers next ∙ ap (λ xs. h.0 ++ xs) rest.1
              ∙ sym (append_assoc h.0 stop.0 rest.0),
        ),
  )

  -- the output can stop within the answers to what is left of the text, which has ended
  pub AppendsBeginning-ended : AppendsBeginning b c (answers_to line)
      → AppendsBeginning a c (answers_to before)
  AppendsBeginning-ended stop = (
    h.0 ++ stop.0,
    Appends-trans a b c h.0 stop.0 h.1 stop.1,
    (
      stop.2.0,
      simp append-nil at (h.2.answers []) ∙ ap (λ xs. h.0 ++ xs) stop.2.1
          ∙ sym (append_assoc h.0 stop.0 stop.2.0),
    ),
  )

-- ---- the end of the work

-- a read of no byte, at the end: the reader held the bytes that were read before it
pub held-ended : (r s t : Option (List ℕ)) (text buffer : List ℕ) (count : ℕ) (P : List ℕ → Type 0)
    → Consumes r s text → Consumes s t (take count buffer) → count ≡ 0 → IsAtEnd t
    → P text → IfSome r P
held-ended r s t text buffer count P h more none ended p =
    let whole : text ++ take count buffer ≡ text = ap (λ n. text ++ take n buffer) none
    ∙ append-nil text in
    let all = Consumes-trans r s t text (take count buffer) h more in
    Consumes-whole r t text P (subst (Consumes r t) whole all) ended p

-- what stops within the answers to the bytes that were read stops within the answers to all that
-- the reader held
pub stops-held : (r s a b : Option (List ℕ)) (text : List ℕ) → Consumes r s text
    → StopsWithin a b text
    → IfSome r (λ held. AppendsBeginning a b (answers_to held))
stops-held None s a b text read stop = tt
stops-held (Some held) None a b text read stop = absurd read
stops-held (Some held) (Some rest) a b text read stop =
    let end' = stop.2 rest in (stop.0, stop.1, (end'.0, ap answers_to read ∙ end'.1))

-- ---- what a run has done

-- a run that fails has written a beginning of the answers
pub Runs-failed : (r : Result Bool Failed) (input left output written : Option (List ℕ)) → IsErr r
    → IfSome input (λ text. AppendsBeginning output written (answers_to text))
    → Runs r input left output written
Runs-failed (Ok fault) input left output written e h = cc e
Runs-failed (Err failed) input left output written e h = h
