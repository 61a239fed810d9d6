-- Faulty lines with their refusals, computed by the definition: in a line 13 comes before 14, 14 before 15, 15 before 6 and 6 before 5
-- (document 01, "Where a request is turned back"; document 02, T-02). And texts that look empty: only one of no bytes is a flow (T-08).
use mathlib.Core.Path.{◌≡◌, refl}
use mathlib.Core.List.{List, [], ◌∷◌, ◌++◌, map}
use Rattle.std.specs.Prelude.{Option, None, Some}
use Prim.Native.Nat.{ℕ}
use Prim.Native.String.{String}
use Rattle.model.specs.Language.{Flow}
use Rattle.text.specs.Bytes.{bytes}
use Rattle.text.specs.Split as Split
use Rattle.text.specs.Number as Number
use Rattle.flow.specs.Words as Words
use Rattle.flow.specs.Refusals.{number_and_place}
use Rattle.flow.specs.Read as Read
use Rattle.std.specs.Prelude.{Result, Ok, Err}
use Rattle.flow.specs.Read.{read_flow}
use Rattle.flow.specs.declared.Refusal.{Refusal}

-- the number and the place of a text's refusal, if it is refused
abbrev pub refused_by : Result Flow Refusal → Option (ℕ × ℕ)
refused_by (Ok flow) = None
refused_by (Err r) = Some (number_and_place r)

-- a line as line 1, and as the line of instruction 1; and a whole text
abbrev as_head : String → Option (ℕ × ℕ)
as_head line = refused_by (read_flow (bytes line ++ bytes "\n1,stop\n"))

abbrev as_instruction : String → Option (ℕ × ℕ)
as_instruction line = refused_by (read_flow (bytes "flow,1,0,1\n" ++ bytes line ++ bytes "\n"))

abbrev as_text : String → Option (ℕ × ℕ)
as_text text = refused_by (read_flow (bytes text))

-- lines with their numbers, those of docs/FLOWS.md among them
abbrev heads : List (String × ℕ)
heads =
    -- the first field is not `flow`
    ("", 13) ∷ ("stop", 13) ∷ ("1,stop", 13) ∷ ("flows,1,0,1", 13) ∷ ("flows,9,0,1", 13) ∷ ("x,-1,01", 13)
    -- the count of fields is wrong
    ∷ ("flow", 14) ∷ ("flow,1,0", 14) ∷ ("flow,1,0,1,", 14) ∷ ("flow,x,01", 14) ∷ ("flow,9,0", 14)
    -- a number is badly written; a number is out of its range
    ∷ ("flow,1,0,", 15) ∷ ("flow,01,0,1", 15) ∷ ("flow,9,0,-1", 15) ∷ ("flow,9,0,1", 5)
    ∷ []

abbrev instructions : List (String × ℕ)
instructions =
    -- the second field is missing, or no instruction word
    ("", 13) ∷ ("stop", 13) ∷ ("1", 13) ∷ ("1,", 13) ∷ ("1,flow,1,0,1", 13) ∷ ("1,halt", 13) ∷ ("x,halt", 13) ∷ ("9,halt", 13)
    ∷ ("x,halt,01", 13)
    -- the count of fields is wrong for that word
    ∷ ("1,nop", 14) ∷ ("1,stop,", 14) ∷ ("x,nop", 14) ∷ ("9,nop", 14) ∷ ("x,set,01", 14) ∷ ("1,set,10000,1", 14)
    -- a number is badly written, the line's own, a constant or a target
    ∷ ("x,nop,1", 15) ∷ ("9,nop,01", 15) ∷ ("1,nop,-1", 15) ∷ ("1,set,-0,1,1", 15) ∷ ("9,set,10000,1,01", 15)
    -- it is out of turn; a number is out of its range
    ∷ ("9,nop,1", 6) ∷ ("9,set,10000,1,1", 6) ∷ ("1,set,10000,1,1", 5)
    ∷ []

-- texts with their refusals
abbrev nearly_empty : List (String × Option (ℕ × ℕ))
nearly_empty =
    ("", None)
    ∷ ("\n", Some (13, 1)) ∷ ("\n\n", Some (13, 1)) ∷ ("\r\n", Some (13, 1)) ∷ (",\n", Some (13, 1))
    ∷ (" ", Some (3, 0)) ∷ ("\n ", Some (3, 0)) ∷ ("flow", Some (3, 0)) ∷ ("flow,1,0,1", Some (3, 0))
    ∷ ("flow,1,0,1\n", Some (8, 2)) ∷ ("flow,1,0,1\n\n", Some (13, 2))
    ∷ []

-- what a line is refused by, and what it ought to be refused by, at a place
abbrev found : (String → Option (ℕ × ℕ)) → List (String × ℕ) → List (Option (ℕ × ℕ))
found judge = map (λ (l : String × ℕ). judge l.0)

abbrev ought : ℕ → List (String × ℕ) → List (Option (ℕ × ℕ))
ought place = map (λ (l : String × ℕ). Some (l.1, place))

pub faulty_lines : (found as_head heads ≡ ought 1 heads)
    × (found as_instruction instructions ≡ ought 2 instructions)
    × (map (λ (t : String × Option (ℕ × ℕ)). as_text t.0) nearly_empty ≡ map (λ (t : String × Option (ℕ × ℕ)). t.1) nearly_empty)
unfolding Read.read_flow Read.read_bytes Read.read_rest Read.read_head Read.head_of Read.read_lines Read.read_line Read.numerals Read.all Words.first_named Split.lines Split.split Split.parts Split.lead Split.same_word Number.natural Number.numeral Number.negative Number.digits_after
faulty_lines = (refl, refl, refl)
