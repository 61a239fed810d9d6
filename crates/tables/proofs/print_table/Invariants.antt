-- `print_table` prints text before each rank.
use denote.Text.{Utf8}
use denote.Shadow.{shadow}
use Rattle.tables.proofs.print_table.Given as goal

abbrev pub invariant-loop-rank : goal.invariant-loop-rank
invariant-loop-rank g l = (goal.iterator-loop-rank g).can_next l.rank-iterator × (goal.iterator-loop-rank g).is_finite l.rank-iterator × shadow (Utf8 l.before)

abbrev pub invariant-loop-n : goal.invariant-loop-n
invariant-loop-n g l = shadow (Utf8 l.before)
