-- What a text is read as in rows, what a legal flow is searched by, and arrays by instruction.
use Rattle.std.specs.Prelude.{◌≡◌, Bool, List, ◌∷◌, map, ℕ, ◌≤◌, ◌<◌, get_or, take, Result, Ok, Err}
use Rattle.model.specs.Language.{Instruction, stop, Flow, has_exits, C1, C2}
use Rattle.model.specs.Pattern.{width_of}
use Rattle.flow.specs.Limits.{max_instructions}
use Rattle.flow.specs.Code.{row_of}
use Rattle.flow.specs.Legal.{Legal}
use Rattle.flow.specs.declared.Instruction.{Instruction as Row}
use Rattle.flow.specs.declared.Flow.{Flow as Rows}
use Rattle.flow.specs.declared.Refusal.{Refusal}
use Rattle.flow.specs.Inner.Rows.{instruction_of, flow_of}
use Rattle.configuration.specs.Inner.Prepare.{FitBytes}
use Rattle.configuration.specs.Inner.Step.{start_of}
use Rattle.search_table.specs.Inner.Passes.{Prepared}
use Rattle.tape_maker.specs.declared.planning.Plan.{Plan}

-- what is read of a text: a legal flow, of no more rows than there are, or its refusal
pub record IsRead (o : Result Flow Refusal) (rows : Rows) : Type 0 where
  pub read : o ≡ Ok (flow_of rows)
  pub legal : Legal (flow_of rows)
  pub few : rows.count ≤ max_instructions

abbrev pub ReadAs : Result Flow Refusal → Result Rows Refusal → Type 0
ReadAs o (Ok rows) = IsRead o rows
ReadAs o (Err why) = o ≡ Err why

-- whether the instruction of a row has two exits
unfoldable pub exits_in : Row → Bool
exits_in x = has_exits (instruction_of x)

-- rows whose numbers that count fit a byte
abbrev pub AllFitBytes : List Row → (count : ℕ) → Type 0
AllFitBytes rows count = (i : ℕ) → i < count → FitBytes (get_or rows i (row_of stop))

-- instruction number i + 1 of those that the first rows hold, `stop` past them
abbrev pub line_at : List Row → (count i : ℕ) → Instruction
line_at rows count i = get_or (map instruction_of (take count rows)) i stop

-- whether instruction number i of them has two exits
abbrev pub exits_at : List Row → (count i : ℕ) → Bool
exits_at rows count i = has_exits (get_or (stop ∷ map instruction_of (take count rows)) i stop)

-- an array with f of each instruction at its place
pub record Each {A : Type 0} (f : Instruction → A) (d : A) (rows : List Row) (count : ℕ) (xs : List A) : Type 0 where
  pub at : (i : ℕ) → i < max_instructions → get_or xs i d ≡ f (line_at rows count i)

-- what a search needs of a legal flow: its instructions prepared, the width of its constants, the start, and C1 and C2
pub record Planned (flow : Flow) (p : Plan) : Type 0 where
  pub legal : Legal flow
  pub prepared : Prepared (C1 flow) flow p.program.ops
  pub width : p.w ≡ width_of (C1 flow) (C2 flow)
  pub begins : p.start ≡ start_of (C1 flow)
  pub low : p.program.lo ≡ C1 flow
  pub high : p.program.hi ≡ C2 flow
