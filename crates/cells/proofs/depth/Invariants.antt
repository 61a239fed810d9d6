-- `cells::depth` meets its contract: the loop stands at the entry that is so many parents up as it has counted (proofs/WayBack.antt). Each parent
-- is earlier, so the entry is the measure.
use Rattle.cells.specs.Inner.Columns.{parent_field, column}
use Rattle.cells.proofs.WayBack.{Counted}
use Rattle.cells.proofs.depth.Given as goal

abbrev pub invariant-loop-i : goal.invariant-loop-i
invariant-loop-i l = Counted (column parent_field l.cells) l.at l.i l.s

abbrev pub decreases-loop-i : goal.decreases-loop-i
decreases-loop-i l = l.i
