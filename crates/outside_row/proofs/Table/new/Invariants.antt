-- `outside_row::Table::new` meets its contract: each load begins where the one before ended (proofs/Filling.antt).
use mathlib.Core.Path.{◌≡◌}
use Prim.Native.Nat.{◌-◌}
use Rattle.outside_row.specs.Inner.Table.{first_of}
use Rattle.outside_row.specs.Inner.Filling.{LoadedTo, ones_of}
use Rattle.outside_row.proofs.Table.new.Given as goal

abbrev pub invariant-loop-v : goal.invariant-loop-v
invariant-loop-v l = LoadedTo (first_of l.v) l.row × (l.ones ≡ ones_of (l.v - 1))
