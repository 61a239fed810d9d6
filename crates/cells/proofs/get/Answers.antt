-- `cells::get` meets its contract: a field of a cell stands in the field's column.
use mathlib.Core.Path.{sym}
use Rattle.cells.proofs.Fields.{column-at}
use Rattle.cells.proofs.get.Goals as goal

pub returns : goal.returns
returns c = sym (column-at _ _ _)
