-- `first_trial` meets its contract: `least` is the least of C1 and the values up to x-index.
use mathlib.Core.Path.{◌≡◌}
use lib.ListN.{drop}
use Rattle.pattern_word.specs.Inner.Pattern.{low, least_of}
use Rattle.pattern_word.proofs.first_trial.Given as goal

abbrev pub invariant-loop-x : goal.invariant-loop-x
invariant-loop-x l = least_of l.least (drop l.x-index l.x-items) ≡ least_of low l.x-items
