-- `Coding::slots` meets its contract: s is the slot of the ranks from the i-th code on.
use mathlib.Core.Path.{◌≡◌}
use lib.ListN.{drop}
use Rattle.outside_row.specs.Inner.Table.{slot_of}
use Rattle.pattern_word.specs.Inner.Pattern.{excess}
use Rattle.pattern_word.proofs.Coding.slots.Given as goal

abbrev pub invariant-loop-i : goal.invariant-loop-i
invariant-loop-i l = l.s ≡ slot_of (excess l.self.w (drop l.i l.c))
