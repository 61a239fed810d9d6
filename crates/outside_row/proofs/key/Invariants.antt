-- `outside_row::key` meets its contract: k is the key of the ranks from the i-th on (proofs/Keys.antt).
use mathlib.Core.Path.{◌≡◌}
use mathlib.Core.List.{[]}
use lib.ListN.{get_or, drop}
use Rattle.outside_row.specs.Inner.Table.{entries_for, key_of}
use Rattle.outside_row.proofs.key.Given as goal

abbrev pub invariant-loop-i : goal.invariant-loop-i
invariant-loop-i l = l.k ≡ key_of (drop l.i (get_or (entries_for l.fn.v) l.n []))
