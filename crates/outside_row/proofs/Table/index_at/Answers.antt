-- `outside_row::Table::index_at` meets its contract: an entry stands at its place, and the row holds the place at its slot.
use mathlib.Core.Path.{◌∙◌}
use borrow.Author.Rules.{rules}
use Rattle.outside_row.proofs.Looked.{index_is}
use Rattle.outside_row.proofs.Table.index_at.Goals as goal

pub returns : goal.returns
returns c = (search rules, λ l is e. c.from.ensures ∙ index_is _ c.args.self.now.is _ l is e)
