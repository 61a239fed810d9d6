-- `cells::find` meets its contract: the walk along the chain passes no entry of the node (proofs/Walk.antt). It goes to earlier entries, so the
-- place where it stands is the measure.
use Rattle.cells.specs.Inner.Columns.{place_field, pattern_field, word_column}
use Rattle.cells.specs.Inner.Index.{node}
use Rattle.cells.proofs.Walk.{Walking}
use Rattle.cells.proofs.find.Given as goal

abbrev pub invariant-loop-cur : goal.invariant-loop-cur
invariant-loop-cur l = Walking (word_column place_field l.cells) (word_column pattern_field l.cells) l.count l.size (node l.place l.pattern) l.cur

abbrev pub decreases-loop-cur : goal.decreases-loop-cur
decreases-loop-cur l = l.cur
