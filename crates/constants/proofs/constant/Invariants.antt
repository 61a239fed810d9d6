-- `constant` meets its contract: the constant of the fields from k on is that of all of them.
use mathlib.Core.Path.{◌≡◌}
use Rattle.flow.specs.Words.{sorts}
use Rattle.flow.specs.Inner.Rows.{instruction_of, numbers_in}
use Rattle.constants.specs.Inner.Constants.{constant_in}
use Rattle.constants.proofs.RowConstants as laws
use Rattle.constants.proofs.constant.Given as goal

abbrev pub invariant-loop-k : goal.invariant-loop-k
invariant-loop-k l = laws.constant_from (sorts l.x.kind) (numbers_in l.x) l.k ≡ constant_in (instruction_of l.x)
