-- `Coding::index` meets its contract: no digit before x-index is that of a variable outside.
use mathlib.Core.Path.{◌≡◌}
use lib.ListN.{drop}
use Rattle.pattern_word.specs.Inner.Pattern.{excess}
use Rattle.pattern_word.proofs.Coding.index.Given as goal

abbrev pub invariant-loop-x : goal.invariant-loop-x
invariant-loop-x l = excess l.self.w (drop l.x-index l.x-items) ≡ excess l.self.w l.x-items
