-- `cells::trace` meets its contract: the field holds the way from the step where the loop stands (proofs/WayBack.antt).
use mathlib.Core.Path.{refl}
use Prim.Native.Nat.{◌≤◌, ◌<◌}
use native.Mathlib.Omega.{arith}
use lib.ListN.{length}
use Rattle.cells.specs.Inner.Columns.{parent_field}
use Rattle.cells.proofs.Fields.{length-column}
use Rattle.cells.proofs.WayBack.{depth_small, trace_start, trace_before, traced_more, traced_all}
use Rattle.cells.proofs.trace.Goals.{In-loop-t}
use Rattle.cells.proofs.trace.Goals as goal

-- the entry that comes next is one of the n
before : (c : In-loop-t) → c.loop-t.i ≤ c.args.at
before c = trace_before c.loop-t.invariant.tracing c.requires.parents c.requires.at_lt_n c.requires.depth

-- and the cells have room for the step
room : (c : In-loop-t) → c.args.at < length c.loop-t.cells × c.loop-t.t < length c.loop-t.cells
room c =
    let l : c.args.at < length c.loop-t.cells = omega (arith, c.requires.parents.room, c.requires.at_lt_n, length-column parent_field c.args.cells.now, c.loop-t.invariant.size) in
    (l, omega (arith, c.loop-t.invariant.tracing.below, depth_small c.requires.parents c.requires.at_lt_n c.requires.depth))

-- ---- the needs
pub loop-t-init : goal.loop-t-init
loop-t-init c = record { tracing = trace_start _ _ _ _; only = λ g n. refl; size = refl }

pub overflow_cast-i : goal.overflow_cast-i
overflow_cast-i c = omega (arith, before (goal.at.overflow_cast-i c).In-loop-t, c.requires.at_lt_n, c.requires.parents.few)

pub put-requires : goal.put-requires
put-requires c = ((room (goal.at.put-requires c).In-loop-t).1, omega arith)

pub get-i-requires : goal.get-i-requires
get-i-requires c = let d = (goal.at.get-i-requires c).In-loop-t in
    (omega (arith, before d, (room d).0, c.put.auto.cells), omega arith)

pub loop-t-preserved : goal.loop-t-preserved
loop-t-preserved c = traced_more _ _ _ c.loop-t.invariant (room (goal.at.loop-t-preserved c).In-loop-t).1 c.put.ensures _ (omega arith) c.put.auto.cells c.get-i.ensures

pub returns-2-clause-traced : goal.returns-2-clause-traced
returns-2-clause-traced c = traced_all _ _ _ c.loop-t.invariant (room (goal.at.returns-2-clause-traced c).In-loop-t).1 c.put.ensures c.requires.parents c.requires.at_lt_n c.requires.depth (omega arith)
