-- `outside_row::load` meets its contract: at each turn the row is filled up to the place of entry n (proofs/Filling.antt).
use Prim.Native.Nat.{◌+◌}
use Rattle.outside_row.specs.Inner.Filling.{LoadedTo}
use Rattle.outside_row.proofs.load.Given as goal

abbrev pub invariant-loop-n : goal.invariant-loop-n
invariant-loop-n l = LoadedTo (l.start + l.n) l.row
