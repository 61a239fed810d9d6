-- `test_cases::empty_line` meets its contract: the first empty line is the same from each place that the loop reaches.
use mathlib.Core.Path.{◌≡◌}
use Prim.Native.Nat.{◌+◌}
use lib.ListN.{drop}
use Rattle.test_cases.specs.Cases.{before_empty, empty_line}
use Rattle.test_cases.proofs.empty_line.Given as goal

abbrev pub invariant-loop-at : goal.invariant-loop-at
invariant-loop-at l = l.at + before_empty l.opens (drop l.at l.file) ≡ empty_line l.file l.from
