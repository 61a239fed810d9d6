-- `count` meets its contract: n is the number from the i-th value on.
use mathlib.Core.Path.{◌≡◌}
use lib.ListN.{drop}
use Rattle.pattern_word.specs.Inner.Pattern.{different_within}
use Rattle.pattern_word.proofs.count.Given as goal

abbrev pub invariant-loop-i : goal.invariant-loop-i
invariant-loop-i l = l.n ≡ different_within l.p l.q (drop l.i l.values)
