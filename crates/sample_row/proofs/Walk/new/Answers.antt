-- `sample_row::Walk::new` meets its contract.
use native.Mathlib.Omega.{arith}
use Rattle.sample_row.proofs.Sized.{starts_fit}
use Rattle.sample_row.proofs.Walk.new.Goals as goal

pub overflow_add-result : goal.overflow_add-result
overflow_add-result c = record { fits = omega (arith, starts_fit c.args.sizes, c.requires) }
