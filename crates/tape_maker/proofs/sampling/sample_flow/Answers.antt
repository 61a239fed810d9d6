-- `sample_flow` meets its contract: an exit that does not exist, too few cells, and what a finished table gives.
use mathlib.Core.Path.{refl, sym, ◌∙◌}
use Rattle.model.specs.Machine.{exit_if}
use Rattle.cells.specs.Cells.{cells_of}
use Rattle.tape_maker.specs.Sample.{Wanted}
use Rattle.tape_maker.proofs.ReportLaws.{plan_subject, plan_wide, search_done, search_full}
use Rattle.tape_maker.proofs.SampleLaws.{flow-exits, finished_tabled, finished-held, plain_answered, full-answered, done_answered}
use Rattle.flow.specs.Inner.Rows.{flow_of}
use Rattle.tape_maker.proofs.sampling.sample_flow.Goals.{After-plan_of-plan}
use Rattle.tape_maker.proofs.sampling.sample_flow.Goals as goal

pub returns-then-not-has_exits : goal.returns-then-not-has_exits
returns-then-not-has_exits c = plain_answered _ _ _ _ _ _ refl (flow-exits c.args.flow c.args.instruction (sym c.has_exits.ensures ∙ c.if-not-has_exits.true))

-- the exit exists
wanted : (c : After-plan_of-plan) → let a = c.args in Wanted (flow_of a.flow) a.instruction
wanted c = flow-exits c.args.flow c.args.instruction (sym c.has_exits.ensures ∙ c.if-not-has_exits.false)

pub new-coding-requires : goal.new-coding-requires
new-coding-requires c = plan_wide c.plan_of-plan.ensures

pub search-requires : goal.search-requires
search-requires c = plan_subject c.plan_of-plan.ensures c.new-coding.ensures

pub returns-in-None : goal.returns-in-None
returns-in-None c = full-answered _ _ _ _ _ _ refl (wanted (goal.at.returns-in-None c).After-plan_of-plan)
    (search_full c.plan_of-plan.ensures c.new-coding.ensures _ c.search.ensures c.in-None.is)

pub sample_for-requires : goal.sample_for-requires
sample_for-requires c =
    let wide = c.new-coding.ensures in
    let finished = search_done c.plan_of-plan.ensures wide _ c.search.ensures c.in-Some.is in
    record { tabled = (flow_of c.args.flow, finished_tabled c.plan_of-plan.ensures wide _ finished (wanted (goal.at.sample_for-requires c).After-plan_of-plan)) }

pub returns-in-Some : goal.returns-in-Some
unfolding flow_of
returns-in-Some c = let a = c.args in
    let wide = c.new-coding.ensures in
    let w = wanted (goal.at.returns-in-Some c).After-plan_of-plan in
    let finished = search_done c.plan_of-plan.ensures wide _ c.search.ensures c.in-Some.is in
    let tabled = finished_tabled c.plan_of-plan.ensures wide c.search.new.cells finished w in
    done_answered (flow_of a.flow) a.instruction (exit_if a.exit) (cells_of a.cells.now) _ _ w
    (finished-held c.plan_of-plan.ensures wide _ finished) refl _ (c.sample_for.ensures (flow_of a.flow) tabled)
