-- `outside_row::load` meets its contract: at each turn the row is filled up to the place of entry n (proofs/Filling.antt).
use mathlib.Core.Path.{◌≡◌}
use mathlib.Core.List.{[]}
use Prim.Native.Nat.{◌+◌, ◌<◌}
use native.Mathlib.Omega.{arith}
use lib.ListN.{get_or, length-set}
use Rattle.outside_row.specs.Inner.Table.{entries_for, slot_of, HasEntry}
use Rattle.outside_row.proofs.Entries.{entries-few}
use Rattle.outside_row.proofs.Filling.{listed_within, listed_key, listed_slot, slot_is, fill_next}
use Rattle.outside_row.proofs.Looked.{count-is, is_listed}
use Rattle.outside_row.proofs.load.Goals.{In-loop-n, After-key-k}
use Rattle.outside_row.proofs.load.Goals as goal

-- ---- a turn of the loop: entry n, the place of its key and its slot
listed : (c : In-loop-n) → HasEntry c.args.v c.loop-n.n
listed c = let p = c.requires.le_v in is_listed _ _ _ _ p.0 p.1 c.first-start.ensures c.first.ensures c.loop-n-test.true

place_below : (c : In-loop-n) → c.first-start.result + c.loop-n.n < 5043
place_below c = omega (arith, c.first-start.ensures, listed_within _ _ (listed c))

slot_at : (c : After-key-k) → c.key-k.result + c.args.ones ≡ slot_of (get_or (entries_for c.args.v) c.loop-n.n [])
slot_at c = slot_is _ _ (listed c.before) _ _ c.key-k.ensures c.requires.le_v.2

slot-low : (c : After-key-k) → c.key-k.result + c.args.ones < 4681
slot-low c = omega (arith, slot_at c, listed_slot _ _ (listed c.before))

-- ---- the needs
pub overflow_sub-n-end : goal.overflow_sub-n-end
overflow_sub-n-end c = let p = c.requires.le_v in omega (arith, count-is _ 0 _ _ p.0 p.1 c.first-start.ensures c.first.ensures)

pub key-k-requires-clause-has_entry : goal.key-k-requires-clause-has_entry
key-k-requires-clause-has_entry c = listed c

pub overflow_cast-row : goal.overflow_cast-row
overflow_cast-row c = record { fits = omega (arith, c.key-k.ensures, listed_key _ _ (listed c.before)) }

pub offset_bounds-row-start : goal.offset_bounds-row-start
offset_bounds-row-start c = record { fits = omega (arith, place_below c.before) }

pub bounds-row-start : goal.bounds-row-start
bounds-row-start c = omega (arith, place_below c.before, c.loop-n.invariant.size)

pub overflow_cast-row-in-loop-n : goal.overflow_cast-row-in-loop-n
overflow_cast-row-in-loop-n c = record { fits = omega (arith, (listed c.before).below, entries-few _ c.requires.le_v.1) }

pub overflow_add-row-in-loop-n : goal.overflow_add-row-in-loop-n
overflow_add-row-in-loop-n c = record { fits = omega (arith, slot-low c) }

pub offset_bounds-row-k : goal.offset_bounds-row-k
offset_bounds-row-k c = record { fits = omega (arith, slot-low c) }

pub bounds-row-k : goal.bounds-row-k
bounds-row-k c = let l = c.loop-n in
    omega (arith, slot-low c, l.invariant.size, length-set l.row (c.first-start.result + l.n) c.key-k.result)

pub loop-n-preserved : goal.loop-n-preserved
loop-n-preserved c = fill_next _ _ _ _ _ _ (listed c.before) c.first-start.ensures c.key-k.ensures (slot_at c) c.loop-n.invariant
