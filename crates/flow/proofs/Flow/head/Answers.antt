-- `flow::Flow::head` meets its contract.
use Rattle.std.proofs.Common.{arith}
use Rattle.std.proofs.lemmas.Bool.Decides.{nat_tests}
use Rattle.flow.specs.Read.{head_of}
use Rattle.flow.proofs.Flow.head.Goals as goal

pub returns-then-not-in_range : goal.returns-then-not-in_range
unfolding head_of
returns-then-not-in_range c = grind (arith, nat_tests)

pub returns : goal.returns
unfolding head_of
returns c = grind (arith, nat_tests)
