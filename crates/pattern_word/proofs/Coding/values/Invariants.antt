-- `Coding::values` meets its contract: those up to x-index are written.
use mathlib.Core.Path.{◌≡◌}
use mathlib.Core.List.{◌++◌, map}
use lib.ListN.{take, drop}
use Rattle.pattern_word.specs.Inner.Pattern.{value_of}
use Rattle.pattern_word.proofs.Coding.values.Given as goal

abbrev pub invariant-loop-x : goal.invariant-loop-x
invariant-loop-x l =
    (take l.x-index l.x-items ++ map (value_of l.self.w) (drop l.x-index l.x-items) ≡ map (value_of l.self.w) l.initial.x-items)
    × (drop l.x-index l.x-items ≡ drop l.x-index l.initial.x-items)
