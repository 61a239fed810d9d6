-- `Coding::codes` meets its contract: those up to x-index are written.
use mathlib.Core.Path.{◌≡◌}
use mathlib.Core.List.{◌++◌, map}
use lib.ListN.{take, drop}
use Rattle.pattern_word.specs.Inner.Pattern.{lane_code}
use Rattle.pattern_word.proofs.Coding.codes.Given as goal

abbrev pub invariant-loop-x : goal.invariant-loop-x
invariant-loop-x l =
    take l.x-index l.x-items ++ map (lane_code l.self.w l.values) (drop l.x-index l.x-items) ≡ map (lane_code l.self.w l.values) l.initial.x-items
