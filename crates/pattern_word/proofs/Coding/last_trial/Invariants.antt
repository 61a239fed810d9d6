-- `Coding::last_trial` meets its contract: `greatest` is the greatest of C2 and the values up to x-index.
use mathlib.Core.Path.{◌≡◌}
use lib.ListN.{drop}
use Rattle.pattern_word.specs.Inner.Pattern.{high, greatest_of}
use Rattle.pattern_word.proofs.Coding.last_trial.Given as goal

abbrev pub invariant-loop-x : goal.invariant-loop-x
invariant-loop-x l = greatest_of l.greatest (drop l.x-index l.x-items) ≡ greatest_of (high l.self.w) l.x-items
