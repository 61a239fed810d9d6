-- `walk` meets its contract. For every flow that the instructions are prepared from, the loop keeps its search with k entries expanded and c
-- settled; its measure is the entries left to settle and to expand. That there is such a flow keeps the indices in range.
use mathlib.Core.Path.{◌≡◌}
use Prim.Native.Nat.{◌+◌, ◌-◌}
use lib.ListN.{length}
use Rattle.cells.specs.Inner.Columns.{columns_of}
use Rattle.search.specs.Inner.Search.{Subject, Exploring}
use Rattle.search.proofs.walk.Given as goal

abbrev pub invariant-loop-k : goal.invariant-loop-k
invariant-loop-k l =
    ((s : Subject l.coding.w l.ops) → Exploring s.lo l.coding.w s.flow (columns_of l.initial.cells) 1 l.size 0 0 → Exploring s.lo l.coding.w s.flow (columns_of l.cells) l.n l.size l.c l.k)
    × (length l.cells ≡ length l.initial.cells)

abbrev pub decreases-loop-k : goal.decreases-loop-k
decreases-loop-k l = l.size + l.size - (l.k + l.c)
