-- `adds_up` meets its contract: the lengths to come add up to what is left where all add up to the size.
use mathlib.Core.Path.{◌∙◌}
use native.Mathlib.Omega.{arith}
use Rattle.tape_maker.proofs.Lengths.{lengths_more, total-less, total-end}
use Rattle.tape_maker.proofs.running.adds_up.Goals as goal

pub returns-then-left-length : goal.returns-then-left-length
returns-then-left-length c = lengths_more c.args.lengths.now c.loop-length.length-index c.loop-length.left (omega arith) c.if-left-length.true ∙ c.loop-length.invariant

pub loop-length-preserved : goal.loop-length-preserved
loop-length-preserved c = total-less c.args.lengths.now c.loop-length.length-index c.loop-length.left (omega arith) (omega arith) ∙ c.loop-length.invariant

pub returns : goal.returns
returns c = total-end c.args.lengths.now c.loop-length.length-index c.loop-length.left (omega arith) ∙ c.loop-length.invariant
