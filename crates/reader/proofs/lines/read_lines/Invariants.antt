-- `lines::read_lines` meets its contract. The outer loop keeps the rows of the lines before its place, the inner loop the numbers of a line before its field;
-- what the definition says of the rest follows.
use mathlib.Core.Path.{◌≡◌}
use Prim.Native.Nat.{◌+◌, ◌-◌, ◌≤◌}
use lib.ListN.{length}
use Rattle.text.specs.Split.{split}
use Rattle.flow.specs.Words.{sorts}
use Rattle.reader.proofs.LineLaws as laws
use Rattle.reader.proofs.lines.read_lines.Given as goal

abbrev pub invariant-loop-k : goal.invariant-loop-k
invariant-loop-k l = laws.NumbersTo (sorts l.start.kind) (split l.fields.line.now) l.k l.numbers

abbrev pub invariant-loop-at : goal.invariant-loop-at
invariant-loop-at l = (l.at ≤ length l.text + 1) × (l.count ≤ 64) × (length l.instructions ≡ 64) × laws.ReadTo l.head l.text l.at l.count l.instructions

abbrev pub decreases-loop-at : goal.decreases-loop-at
decreases-loop-at l = length l.text + 1 - l.at
