-- How the code holds a flow: a row for each instruction, in the order of the lines, and rows of `stop` up to 64.
use Rattle.std.specs.Prelude.{List, ◌++◌, map, ◌-◌, ℤ, length, replicate}
use Rattle.model.specs.Language.{Instruction, read, put, copy, const, less, over, under, nop, stop, Flow, fields}
use Rattle.flow.specs.Limits.{max_instructions}
use Rattle.flow.specs.Words.{number, at}
use Rattle.std.specs.Prelude.{Result, Ok, Err}
use Rattle.flow.specs.declared.Refusal.{Refusal}
use Rattle.flow.specs.declared.Kind.{Kind}
use Rattle.flow.specs.declared.Kind.TheVariants.{Read, Put, Copy, Set, Less, Over, Under, Nop, Stop}
use Rattle.flow.specs.declared.Instruction.{Instruction as Row}
use Rattle.flow.specs.declared.Flow.{Flow as Rows}

-- the kind of an instruction
abbrev pub kind : Instruction → Kind
kind (read a v p m) = Read
kind (put v y n) = Put
kind (copy u v n) = Copy
kind (const c v n) = Set
kind (less u v p m) = Less
kind (over c v p m) = Over
kind (under v c p m) = Under
kind (nop n) = Nop
kind stop = Stop

-- the numbers after the word, in the order of the line
abbrev pub numbers : Instruction → List ℤ
numbers x = map number (fields x)

-- a row is a line: the kind, and the numbers after the word in their order, 0 past the last
abbrev pub row : Kind → List ℤ → Row
row k zs = record { kind = k; first = at zs 0; second = at zs 1; third = at zs 2; fourth = at zs 3 }

-- the row of an instruction
abbrev pub row_of : Instruction → Row
row_of x = row (kind x) (numbers x)

-- a flow as the code holds it
unfoldable pub rows_of : Flow → Rows
rows_of flow = record {
  tapes = flow.tapes;
  outputs = flow.outputs;
  variables = flow.variables;
  count = length flow.instructions;
  instructions = map row_of flow.instructions ++ replicate (max_instructions - length flow.instructions) (row_of stop);
}

-- the code's answer for what a text is read as
unfoldable pub reading_of : Result Flow Refusal → Result Rows Refusal
reading_of (Ok flow) = Ok (rows_of flow)
reading_of (Err r) = Err r
