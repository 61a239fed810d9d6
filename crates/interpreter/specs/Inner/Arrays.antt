-- What the code holds of a run.
use Rattle.std.specs.Prelude.{◌≡◌, Bool, true, false, cond, List, [], ◌∷◌, ℕ, ◌≤◌, ℤ, length, get_or, take}
use Rattle.std.proofs.Math.Option.{Option, none, some}
use Rattle.std.proofs.Math.Seq.{slice}
use Rattle.model.specs.Language.{Field, tape, output, variable, target, constant, fields}
use Rattle.model.specs.Machine.{State, step_by, Exit, exit_if, exit_by}
use Rattle.flow.specs.Words.{count, at, built}
use Rattle.flow.specs.Limits.{max_tapes, max_variables}
use Rattle.flow.specs.declared.Flow.{Flow as Rows}
use Rattle.flow.specs.declared.Instruction.{Instruction as Row}
use Rattle.flow.specs.declared.Kind.{Kind}
use Rattle.flow.specs.Inner.Rows.{instruction_of, flow_of, numbers_in, branches}
use Rattle.interpreter.specs.declared.Onward.{Onward}
use Rattle.interpreter.specs.Run.{Output, Outcome, is_stop, puts_by, begin, limited}

-- what is left of each tape: the records from its place to its end
unfoldable pub left_in : List ℤ → (at ends : List ℕ) → List (List ℤ)
left_in row [] ends = []
left_in row (a ∷ at) [] = []
left_in row (a ∷ at) (e ∷ ends) = slice a e row ∷ left_in row at ends

-- the state that the code holds: always four variables and three tapes, and no set of ended tapes
abbrev pub held : ℕ → List ℤ → List ℤ → (at ends : List ℕ) → State
held next row variables at ends = record { next = next; variables = variables; left = left_in row at ends; ended = [] }

-- the places and ends of three tapes, which end in the row
pub record Placed (row : List ℤ) (at ends : List ℕ) : Type 0 where
  pub places : length at ≡ max_tapes
  pub three : length ends ≡ max_tapes
  pub within : (i : ℕ) → get_or ends i 0 ≤ length row

-- fields that name tapes 1 to t and variables 1 to v, and count from 1; a row names three tapes and four variables at most
abbrev pub FieldFits : (t v : ℕ) → Field → Type 0
FieldFits t v (tape n) = (1 ≤ n) × (n ≤ t)
FieldFits t v (output n) = (1 ≤ n) × (n ≤ 255)
FieldFits t v (variable n) = (1 ≤ n) × (n ≤ v)
FieldFits t v (target n) = 1 ≤ n
FieldFits t v (constant c) = Unit {0}

abbrev pub FieldsFit : (t v : ℕ) → List Field → Type 0
FieldsFit t v [] = Unit {0}
FieldsFit t v (f ∷ fs) = FieldFits t v f × FieldsFit t v fs

unfoldable pub RowFits : Row → Type 0
RowFits x = FieldsFit max_tapes max_variables (fields (instruction_of x))

-- the kinds that end a run, and that put
abbrev any : List Output → Bool
any [] = false
any (o ∷ os) = true

abbrev pub stops : Kind → Bool
stops k = is_stop (built k [])

abbrev pub outputs : Kind → Bool
outputs k = any (puts_by (built k []) (held 0 [] [] [] []))

-- the number in place j of a row, as a count
abbrev pub count_at : Row → ℕ → ℕ
count_at x j = count (at (numbers_in x) j)

-- where a step goes on: to N, or to P or M
abbrev pub straight_on : ℕ → Onward
straight_on n = record { first = true; next = n }

abbrev pub either_on : Row → Bool → Onward
either_on x first = record { first = first; next = cond first (count_at x 2) (count_at x 3) }

-- the exit taken, by whether there are two and whether the step goes on by the first target
abbrev pub exit_when : (two first : Bool) → Option Exit
exit_when true first = some (exit_if first)
exit_when false first = none

-- one step of the machine on what the code holds, and where it goes on
pub record Stepped (x : Row) (row : List ℤ) (ends : List ℕ) (vs : List ℤ) (at : List ℕ) (vs' : List ℤ) (at' : List ℕ) (went : Onward) : Type 0 where
  pub state : (n : ℕ) → step_by (instruction_of x) (held n row vs at ends) ≡ held went.next row vs' at' ends
  pub exit : (n : ℕ) → exit_by (instruction_of x) (held n row vs at ends) ≡ exit_when (branches x.kind) went.first
  pub kept : length at' ≡ length at

-- the run on the tapes that stand at these places
unfoldable pub held_run : Rows → (cells limit : ℕ) → List ℤ → (at ends : List ℕ) → Outcome
held_run flow cells limit row at ends = limited (flow_of flow) (some cells) limit (begin (flow_of flow) (take flow.tapes (left_in row at ends)))
