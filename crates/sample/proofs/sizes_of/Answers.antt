-- `sizes_of` meets its contract.
use Rattle.cells.specs.Inner.Columns.{place_field, way_field, column, word_column}
use Rattle.sample.proofs.Counts.{reads-below}
use Rattle.sample.proofs.sizes_of.Goals as goal

pub counted-requires : goal.counted-requires
counted-requires c = let a = c.args in
    reads-below a.ops (word_column place_field a.cells.now) (column way_field a.cells.now) a.steps c.requires.few c.reads-counts.result c.reads-counts.ensures
