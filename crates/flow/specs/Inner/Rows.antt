-- What rows hold: numbers, the instruction of a row, the flow of all rows, and whether a kind has two exits.
use Rattle.std.specs.Prelude.{map, List, [], ◌∷◌, Bool, take, ℤ}
use Rattle.model.specs.Language.{Instruction, Flow, has_exits}
use Rattle.flow.specs.Words.{built}
use Rattle.flow.specs.declared.Instruction.{Instruction as Row}
use Rattle.flow.specs.declared.Flow.{Flow as Rows}
use Rattle.flow.specs.declared.Kind.{Kind}

-- the numbers in a row
abbrev pub numbers_in : Row → List ℤ
numbers_in x = x.first ∷ x.second ∷ x.third ∷ x.fourth ∷ []

abbrev pub instruction_of : Row → Instruction
instruction_of x = built x.kind (numbers_in x)

unfoldable pub flow_of : Rows → Flow
flow_of rows = record {
  tapes = rows.tapes;
  outputs = rows.outputs;
  variables = rows.variables;
  instructions = map instruction_of (take rows.count rows.instructions);
}

-- whether the instructions of a kind have two exits
abbrev pub branches : Kind → Bool
branches k = has_exits (built k [])
