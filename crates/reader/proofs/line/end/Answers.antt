-- `line::end` meets its contract: each way out is one of the definition's checks.
use mathlib.Core.Path.{◌≡◌, sym, ap, ◌∙◌}
use borrow.Author.Tests.{eq-eqb, ne_eqb}
use Rattle.model.specs.Language.{fields}
use Rattle.std.specs.Prelude.{Ok}
use Rattle.flow.specs.Read.{all, in_range}
use Rattle.flow.specs.Code.{row}
use Rattle.flow.specs.Inner.Rows.{instruction_of}
use Rattle.flow.specs.declared.Instruction.{Instruction as Row}
use Rattle.reader.specs.Inner.Line.{end_line}
use Rattle.reader.proofs.line.end.Goals.{After-in_range}
use Rattle.reader.proofs.line.end.Goals as goal

-- the numbers lie in their ranges
tested : (c : After-in_range) → let a = c.args in all (in_range a.head) (fields (instruction_of (row a.start.kind a.numbers))) ≡ c.in_range.result
tested c = let a = c.args in sym (c.in_range.ensures ∙ ap (λ (x : Row). all (in_range a.head) (fields (instruction_of x))) c.new-instruction.ensures)

pub returns-then-from-count : goal.returns-then-from-count
unfolding end_line
returns-then-from-count c = rw (← c.from.ensures, ne_eqb _ _ c.if-from-count.true)

pub returns-then-not-in_range : goal.returns-then-not-in_range
unfolding end_line
returns-then-not-in_range c =
    rw (← c.from.ensures, eq-eqb _ _ c.if-from-count.false, tested (goal.at.returns-then-not-in_range c).After-in_range, c.if-not-in_range.true)

pub returns : goal.returns
unfolding end_line
returns c =
    rw (← c.from.ensures, eq-eqb _ _ c.if-from-count.false, tested (goal.at.returns c).After-in_range, c.if-not-in_range.false)
    (ap Ok c.new-instruction.ensures)
