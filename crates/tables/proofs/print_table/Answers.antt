-- `print_table` prints text before each rank.
use Rattle.tables.proofs.print_table.Goals.{then-is_pattern+in-None, else-is_pattern}
use Rattle.tables.proofs.print_table.Goals as goal

pub loop-n-preserved : goal.loop-n-preserved
loop-n-preserved g c =
    elim c.if-is_pattern.branch [
      | then-is_pattern+in-None w ↦ rw w.before-is w.loop-rank.invariant.2
      | else-is_pattern w ↦ rw w.before-is c.loop-n.invariant
    ]
