-- `reads` meets its contract: the counts are those of the steps passed (proofs/Reading.antt).
use mathlib.Core.Path.{◌≡◌}
use Rattle.cells.specs.Inner.Columns.{place_field, way_field, column, word_column}
use Rattle.search_table.specs.Inner.Way.{reads_on}
use Rattle.search_table.proofs.reads.Given as goal

abbrev pub invariant-loop-t : goal.invariant-loop-t
invariant-loop-t l = l.counts ≡ reads_on l.ops (word_column place_field l.cells) (column way_field l.cells) l.t
