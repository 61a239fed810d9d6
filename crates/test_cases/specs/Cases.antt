-- A data file is cases one after another: a line with a name, the lines of a text, and an empty line. What the case at a place is, for every
-- file and every place.
use Rattle.std.specs.Prelude.{◌≡◌, Bool, true, false, cond, List, [], ◌∷◌, ℕ, suc, ◌+◌, ◌<◌, ◌≤◌, max, eqb, ltb, length, drop, slice_range, MatchOption}
use Rattle.std.specs.declared.option.Option.{Option}
use Rattle.text.specs.Inner.Divided.{until}
use Rattle.test_cases.specs.declared.Case.{Case}

-- how many bytes stand before the first empty line, or in all where there is none; `opens` says whether a line starts here
unfoldable pub before_empty : (opens : Bool) → List ℕ → ℕ
before_empty opens [] = 0
before_empty opens (x ∷ xs) = cond (eqb x 10) (cond opens 0 (suc (before_empty true xs))) (suc (before_empty false xs))

-- where the first byte 10 stands from a place on, or the file's end; a place past the end is such an end itself
abbrev pub line_end : List ℕ → ℕ → ℕ
line_end file at = at + until 10 (drop at file)

-- where the first empty line stands from a place on, at which a line starts, or the file's end
abbrev pub empty_line : List ℕ → ℕ → ℕ
empty_line file at = at + before_empty true (drop at file)

-- where the text behind a name's end starts: past its byte 10, if there is one
abbrev pub text_start : List ℕ → ℕ → ℕ
text_start file at = cond (ltb at (length file)) (at + 1) at

-- where a case has the end of its name, and the start and the end of its text
pub record Places : Type 0 where
  pub named : ℕ
  pub start : ℕ
  pub end : ℕ

-- the case at a place
unfoldable pub next_case : List ℕ → ℕ → Places
next_case file at =
    let named = line_end file at in
    let start = text_start file named in
    record { named = named; start = start; end = empty_line file start }

-- what a loop over the cases goes by: name and text lie one behind the other, and within the file where the place does
pub record Ordered (file : List ℕ) (at : ℕ) (r : Places) : Type 0 where
  pub name : at ≤ r.named
  pub text : r.named ≤ r.start
  pub back : r.start ≤ r.end
  pub within : r.end ≤ max at (length file)

-- the case that stands at a place, as slices of the file, and the place behind the empty line that ends it
pub record CaseAt (file : List ℕ) (at : ℕ) (case : Case) (after : ℕ) : Type 0 where
  pub inside : at < length file
  pub named : case.name.now ≡ slice_range file at (next_case file at).named
  pub holds : case.text.now ≡ slice_range file (next_case file at).start (next_case file at).end
  pub ordered : Ordered file at (next_case file at)
  pub further : after ≡ (next_case file at).end + 1

-- what an iteration from a place on gives: the case there, or none where the file ends
abbrev pub GivesCase : List ℕ → ℕ → Option Case → List ℕ → ℕ → Type 0
GivesCase file at r file' after = (file' ≡ file) × MatchOption r (length file ≤ at) (λ case. CaseAt file at case after)
