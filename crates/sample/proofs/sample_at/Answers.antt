-- `sample_at` meets its contract: the entry gives the distance, and the way to it the records.
use mathlib.Core.Path.{◌≡◌, refl, ◌∙◌}
use Prim.Native.Nat.{◌<◌}
use native.Mathlib.Omega.{arith}
use lib.ListN.{get_or}
use Rattle.cells.specs.Inner.Columns.{distance_field, column}
use Rattle.cells.proofs.Fields.{length-column}
use Rattle.sample.proofs.Picking.{nearest_below, short_picked, written_leads, written_exits, written_picked}
use Rattle.sample.proofs.sample_at.Goals.{Start, After-wide-d}
use Rattle.sample.proofs.sample_at.Goals as goal

far : (c : After-wide-d) → c.wide-d.result ≡ get_or (column distance_field c.args.cells.now) c.args.k 0
far c = c.wide-d.ensures ∙ c.get.ensures

below : (c : Start) → c.args.k < c.args.n
below c = nearest_below c.requires.by_index.2 c.args.exit c.args.k c.requires.by_index.3

-- ---- the needs
pub get-requires : goal.get-requires
get-requires c = let l = below (goal.at.get-requires c).Start in
    (omega (arith, c.requires.by_index.2.walkable.distance_room, length-column distance_field c.args.cells.now), omega arith)

pub depth-steps-requires-clause-at_lt_n : goal.depth-steps-requires-clause-at_lt_n
depth-steps-requires-clause-at_lt_n c = below (goal.at.depth-steps-requires-clause-at_lt_n c).Start

pub returns-then-short : goal.returns-then-short
returns-then-short c = λ flow i t h. short_picked t c.args.exit c.args.k h (c.wide-d.ensures ∙ c.get.ensures) c.args.tapes c.args.row.now (omega arith)

pub trace-requires-clause-at_lt_n : goal.trace-requires-clause-at_lt_n
trace-requires-clause-at_lt_n c = below (goal.at.trace-requires-clause-at_lt_n c).Start

pub write_sample-lengths-requires-clause-course_leads : goal.write_sample-lengths-requires-clause-course_leads
write_sample-lengths-requires-clause-course_leads c =
    let far = far (goal.at.write_sample-lengths-requires-clause-course_leads c).After-wide-d in
    let r = c.trace.ensures in
    let q = written_leads _ _ r.only c.trace.auto.cells c.requires.by_index.2 c.args.exit c.requires.by_index.3 far c.depth-steps.ensures r.traced in
    (c.requires.by_index.0, q.0, q.1)

pub write_sample-lengths-requires-clause-steps_in_bounds : goal.write_sample-lengths-requires-clause-steps_in_bounds
write_sample-lengths-requires-clause-steps_in_bounds c =
    let far = far (goal.at.write_sample-lengths-requires-clause-steps_in_bounds c).After-wide-d in
    let r = c.trace.ensures in
    omega (arith, written_exits _ _ r.only c.trace.auto.cells c.requires.by_index.2 c.args.exit c.requires.by_index.3 far c.depth-steps.ensures r.traced)

pub returns : goal.returns
returns c = λ flow i t h.
    let far = far (goal.at.returns c).After-wide-d in
    let r = c.trace.ensures in
    let q = written_leads _ _ r.only c.trace.auto.cells t c.args.exit h far c.depth-steps.ensures r.traced in
    written_picked _ _ r.only c.trace.auto.cells t c.args.exit h far c.depth-steps.ensures r.traced _ (c.write_sample-lengths.ensures flow q.0 q.1) (omega arith) refl
