-- `range_of` meets its contract: the loop has folded the constants of the rows from i on, and i falls to 0.
use mathlib.Core.Path.{◌≡◌}
use Rattle.model.specs.Language.{least, greatest}
use Rattle.constants.proofs.Extremes as extremes
use Rattle.constants.proofs.range_of.Given as goal

abbrev pub invariant-loop-i : goal.invariant-loop-i
invariant-loop-i l = (l.lo ≡ least (extremes.extremes_rest l.fn.flow l.i)) × (l.hi ≡ greatest (extremes.extremes_rest l.fn.flow l.i))
