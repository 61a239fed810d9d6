-- `cells::begin` meets its contract: no entry needs no index, and the start is the first (proofs/Entering.antt).
use Rattle.cells.proofs.Entering.{filled_none, begun_filled}
use Rattle.cells.proofs.begin.Goals as goal

pub add-requires-clause-filled_in : goal.add-requires-clause-filled_in
add-requires-clause-filled_in c = filled_none _ _ c.requires.size_nonzero c.requires.size_bound

pub returns : goal.returns
returns c = begun_filled c.args.cells.now _ (filled_none c.args.cells.now _ c.requires.size_nonzero c.requires.size_bound) c.requires.size_nonzero
    c.add.ensures.added c.add.ensures.filled_in_2 c.add.ensures.cells_after
