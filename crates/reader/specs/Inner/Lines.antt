-- The flow that the code keeps of the instruction lines.
use Rattle.std.specs.Prelude.{List, ◌++◌, map, ◌-◌, length, replicate}
use Rattle.model.specs.Language.{Instruction, stop}
use Rattle.flow.specs.Limits.{max_instructions}
use Rattle.flow.specs.Code.{row_of}
use Rattle.flow.specs.Inner.Reader.{clamped}
use Rattle.flow.specs.declared.Head.{Head}
use Rattle.flow.specs.declared.Flow.{Flow as Rows}

-- line 1, and the rows that are kept of the instructions; rows past the count hold `stop`
unfoldable pub kept_flow : Head → List Instruction → Rows
kept_flow h xs = record {
  tapes = h.tapes;
  outputs = h.outputs;
  variables = h.variables;
  count = length xs;
  instructions = map clamped xs ++ replicate (max_instructions - length xs) (row_of stop);
}
