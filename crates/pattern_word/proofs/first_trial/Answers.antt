-- `first_trial` meets its contract: `least` is the least of C1 and the values up to x-index (proofs/Trials.antt).
use mathlib.Core.Path.{◌∙◌}
use native.Mathlib.Omega.{arith}
use borrow.Author.Rules.{rules}
use Rattle.pattern_word.proofs.Trials as trials
use Rattle.pattern_word.proofs.first_trial.Goals as goal

pub loop-x-preserved : goal.loop-x-preserved
loop-x-preserved c = rw c.min-least.ensures (trials.least-turn c.loop-x.least c.args.values c.loop-x.x-index (search rules) ∙ c.loop-x.invariant)

pub overflow_sub-result : goal.overflow_sub-result
overflow_sub-result c = omega (arith, trials.least-end c.loop-x.least c.args.values c.loop-x.x-index (search rules), c.loop-x.invariant, c.requires)

pub returns : goal.returns
returns c = omega (arith, trials.least-end c.loop-x.least c.args.values c.loop-x.x-index (search rules), c.loop-x.invariant)
