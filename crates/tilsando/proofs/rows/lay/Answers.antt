-- `lay` meets its contract: proofs/Laying.antt.
use mathlib.Core.Path.{ap, ◌∙◌}
use mathlib.Core.List.{◌++◌}
use lib.ListN.{drop}
use Rattle.tilsando.proofs.Laying.{laid_is}
use Rattle.tilsando.proofs.rows.lay.Goals as goal

pub returns : goal.returns
returns g c = ap (λ l. l ++ drop c.min-n.result c.args.row.now) c.copy_from_slice.ensures.after ∙ laid_is c.args.values.now c.args.row.now c.min-n.result c.min-n.ensures
