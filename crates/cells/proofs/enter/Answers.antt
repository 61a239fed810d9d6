-- `cells::enter` meets its contract: proofs/Fields.antt, for a cell of full length.
use Rattle.cells.proofs.Fields.{entered}
use Rattle.cells.proofs.enter.Goals as goal

pub returns : goal.returns
returns c = entered _ _ _ _ _ _ _ _ (c.told-cells _ c.requires) c.low.ensures c.high.ensures c.low-2.ensures c.high-2.ensures
