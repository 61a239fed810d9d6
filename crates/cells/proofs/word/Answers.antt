-- `cells::word` meets its contract: two fields of a cell are a word of their column.
use mathlib.Core.Path.{sym, ◌∙◌}
use Rattle.cells.proofs.Fields.{word-column-at}
use Rattle.cells.proofs.word.Goals as goal

pub returns : goal.returns
returns c = c.join.ensures ∙ sym (word-column-at _ _ _)
