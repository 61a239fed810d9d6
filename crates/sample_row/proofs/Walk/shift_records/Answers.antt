-- `sample_row::Walk::shift_records` meets its contract.
use mir.Syntax.{w32}
use mir.Val.{to_z, of_z}
use Rattle.model.specs.Inner.Lists.{All}
use Rattle.sample_row.specs.Inner.Moves.{moved, Movable}
use Rattle.sample_row.specs.Inner.Layout.{tapes_at, on_parts}
use Rattle.sample_row.proofs.Parts.{part_fits, apart_next, all-next}
use Rattle.sample_row.proofs.Walk.shift_records.Goals as goal

pub shift_part-requires : goal.shift_part-requires
unfolding tapes_at
shift_part-requires c = let h = c.in-Some.ensures.steps in
    let r = rw (h.0, h.1) at c.loop-s.invariant.0 in
    let t = rw (h.0, h.1) at c.loop-s.invariant.1 in
    (part_fits (moved c.args.out c.args.m) (All Movable) _ _ _ _ c.loop-s.row r, t.0)

pub loop-s-preserved : goal.loop-s-preserved
unfolding tapes_at on_parts
loop-s-preserved c = let h = c.in-Some.ensures.steps in
    let f = moved c.args.out (to_z w32 (of_z w32 c.args.m)) in
    let r = rw (h.0, h.1) at c.loop-s.invariant.0 in
    let t = rw (h.0, h.1) at c.loop-s.invariant.1 in
    let all = rw (h.0, h.1) at c.loop-s.invariant.2 in
    rw c.shift_part.ensures (apart_next f (All Movable) _ _ _ _ c.loop-s.row r, all-next f (All Movable) _ _ _ _ c.loop-s.row r t.1, all)
