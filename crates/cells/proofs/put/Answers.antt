-- `cells::put` meets its contract: proofs/Fields.antt, for a cell of full length.
use Rattle.cells.proofs.Fields.{stored}
use Rattle.cells.proofs.put.Goals as goal

pub returns : goal.returns
returns c = stored _ _ _ _ (c.told-cells _ c.requires.0) c.requires.1
