-- `Coding::last_trial` meets its contract: `greatest` is the greatest of C2 and the values up to x-index (proofs/Trials.antt).
use mathlib.Core.Path.{◌∙◌}
use native.Mathlib.Omega.{arith}
use borrow.Author.Rules.{rules}
use Rattle.pattern_word.proofs.Trials as trials
use Rattle.pattern_word.proofs.Coding.last_trial.Goals as goal

pub loop-x-preserved : goal.loop-x-preserved
loop-x-preserved c = rw c.max-greatest.ensures (trials.greatest-turn c.loop-x.greatest c.args.values c.loop-x.x-index (search rules) ∙ c.loop-x.invariant)

pub overflow_add-result : goal.overflow_add-result
overflow_add-result c = record {
  fits = omega
      (arith, trials.greatest-end c.loop-x.greatest c.args.values c.loop-x.x-index (search rules), c.loop-x.invariant, c.requires, c.args.self.now.width.few);
}

pub returns : goal.returns
returns c = omega (arith, trials.greatest-end c.loop-x.greatest c.args.values c.loop-x.x-index (search rules), c.loop-x.invariant)
