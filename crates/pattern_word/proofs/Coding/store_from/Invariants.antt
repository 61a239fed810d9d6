-- `Coding::store_from` meets its contract: the digits up to x-index are written.
use mathlib.Core.Path.{◌≡◌}
use mathlib.Core.List.{◌++◌}
use lib.ListN.{take, drop}
use Rattle.pattern_word.specs.Inner.Pattern.{store_from}
use Rattle.pattern_word.proofs.Coding.store_from.Given as goal

abbrev pub invariant-loop-x : goal.invariant-loop-x
invariant-loop-x l =
    take l.x-index l.x-items ++ store_from l.self.w l.n (drop l.x-index l.x-items) ≡ store_from l.self.w l.initial.n l.initial.x-items
