-- `sample_row::capped` meets its contract. The loop's invariant: the sum so far is that of the lengths so far, and does not pass the cap.
use mathlib.Core.Path.{◌≡◌}
use Prim.Native.Nat.{◌≤◌}
use lib.ListN.{take}
use Rattle.model.specs.Tapes.{total}
use Rattle.sample_row.proofs.capped.Given as goal

abbrev pub invariant-loop-x : goal.invariant-loop-x
invariant-loop-x l = (l.sum ≡ total (take l.x-index l.lengths)) × (l.sum ≤ l.cap)
