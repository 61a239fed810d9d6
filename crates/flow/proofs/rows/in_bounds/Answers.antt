-- `flow::rows::in_bounds` meets its contract.
use Rattle.std.proofs.Common.{arith}
use Rattle.std.proofs.lemmas.Int.{ints, clamps}
use Rattle.flow.specs.Inner.Reader.{bounded}
use Rattle.flow.proofs.rows.in_bounds.Goals as goal

pub returns : goal.returns
unfolding bounded
returns c = grind (arith, ints, clamps)
