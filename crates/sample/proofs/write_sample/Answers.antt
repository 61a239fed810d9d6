-- `write_sample` meets its contract.
use native.Mathlib.Omega.{arith}
use lib.ListN.{length}
use Rattle.sample.proofs.Counts.{op_by_place, along_op}
use Rattle.sample.proofs.Ending.{end_roomy, end_asks, end-written}
use Rattle.search_table.proofs.Reading.{on_way}
use Rattle.sample.proofs.write_sample.Goals.{Start}
use Rattle.sample.proofs.write_sample.Goals as goal

-- ---- the needs
pub place_on-requires : goal.place_on-requires
place_on-requires c = on_way c.args.cells.now c.requires.course_leads.1.passable c.args.steps (omega arith)

pub write_steps-walk-requires-clause-roomy : goal.write_steps-walk-requires-clause-roomy
write_steps-walk-requires-clause-roomy c = let q = c.requires.course_leads.1 in
    let op_is = op_by_place q _ _ c.place_on.ensures c.index.ensures.0 in
    end_roomy q c.args.exit op_is c.sizes_of-sizes.ensures (length c.args.row.now) c.requires.steps_in_bounds

pub last_read-requires-clause-op_fits : goal.last_read-requires-clause-op_fits
last_read-requires-clause-op_fits c = let q = c.requires.course_leads.1 in
    along_op q c.args.steps (omega arith) (op_by_place q _ _ c.place_on.ensures c.index.ensures.0)

pub last_read-requires-clause-ready : goal.last_read-requires-clause-ready
last_read-requires-clause-ready c = let q = c.requires.course_leads.1 in
    let op_is = op_by_place q _ _ c.place_on.ensures c.index.ensures.0 in
    end_asks q c.args.exit op_is c.sizes_of-sizes.ensures c.requires.course_leads.2 (c.write_steps-walk.ensures _ q) c.requires.steps_in_bounds

pub returns : goal.returns
returns c = λ flow q d. let op_is = op_by_place c.requires.course_leads.1 _ _ c.place_on.ensures c.index.ensures.0 in
    end-written q c.args.exit op_is c.sizes_of-sizes.ensures d (c.write_steps-walk.ensures flow q) c.requires.steps_in_bounds c.last_read.ensures
