-- `sample_for` meets its contract: by what is found.
use Rattle.cells.specs.Inner.Columns.{columns_of}
use Rattle.cells.specs.Inner.Entries.{entries_of}
use Rattle.sample.proofs.Picking.{nearest_is, nothing_picked}
use Rattle.sample.proofs.sample_for.Goals as goal

pub returns-in-None : goal.returns-in-None
returns-in-None c = λ flow t.
    let a = c.args in
    nothing_picked t a.exit a.tapes a.row.now
    (nearest_is a.coding.now.w (entries_of (columns_of a.cells.now)) a.n a.program.now.ops a.instruction a.exit c.in-None.is c.nearest.ensures)
