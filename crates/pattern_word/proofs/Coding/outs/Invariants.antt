-- `Coding::outs` meets its contract: n is the number of those before x-index.
use mathlib.Core.Path.{◌≡◌}
use Prim.Native.Nat.{◌+◌}
use lib.ListN.{length, drop}
use Rattle.pattern_word.specs.Inner.Pattern.{excess}
use Rattle.pattern_word.proofs.Coding.outs.Given as goal

abbrev pub invariant-loop-x : goal.invariant-loop-x
invariant-loop-x l = l.n + length (excess l.self.w (drop l.x-index l.x-items)) ≡ length (excess l.self.w l.x-items)
