-- `Coding::recall_from` meets its contract: the codes up to x-index are written, and k is the key of the ranks that are left.
use mathlib.Core.Path.{◌≡◌}
use mathlib.Core.List.{List, ◌++◌}
use Prim.Native.Nat.{ℕ}
use lib.ListN.{take, drop}
use Rattle.outside_row.specs.Inner.Table.{key_of}
use Rattle.outside_row.proofs.Keys.{Octal}
use Rattle.pattern_word.specs.Inner.Pattern.{recall_from}
use Rattle.pattern_word.proofs.Coding.recall_from.Given as goal

abbrev pub invariant-loop-x : goal.invariant-loop-x
invariant-loop-x l =
    (r : List ℕ) → Octal r → l.initial.k ≡ key_of r
    → (s : List ℕ) × Octal s × (l.k ≡ key_of s)
    × (take l.x-index l.x-items ++ recall_from l.self.w (drop l.x-index l.x-items) s ≡ recall_from l.self.w l.initial.x-items r)
