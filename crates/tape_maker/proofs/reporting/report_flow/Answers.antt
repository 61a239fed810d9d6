-- `report_flow` meets its contract: the plan of the flow is searched, and what is found is answered.
use mathlib.Core.Path.{◌≡◌, refl}
use borrow.Author.Rules.{rules}
use lib.ListN.{length}
use Rattle.tape_maker.specs.Report.{FlowReport}
use Rattle.tape_maker.proofs.ReportLaws.{plan_subject, plan_wide, finished-walkable, search_done, search_full, given_reported}
use Rattle.tape_maker.proofs.reporting.report_flow.Goals as goal

pub new-coding-requires : goal.new-coding-requires
new-coding-requires c = plan_wide c.plan_of-plan.ensures

pub search-requires : goal.search-requires
search-requires c = plan_subject c.plan_of-plan.ensures c.new-coding.ensures

pub exits-d-requires : goal.exits-d-requires
exits-d-requires c = let plan = c.plan_of-plan.ensures in
    let wide = c.new-coding.ensures in
    finished-walkable plan wide (search_done plan wide _ c.search.ensures c.in-Some.is)

pub returns-in-None : goal.returns-in-None
unfolding FlowReport
returns-in-None c = (refl, search_full c.plan_of-plan.ensures c.new-coding.ensures _ c.search.ensures c.in-None.is)

pub returns-in-Some : goal.returns-in-Some
unfolding FlowReport
returns-in-Some c = let plan = c.plan_of-plan.ensures in
    let wide = c.new-coding.ensures in
    let long : length c.args.flow.instructions ≡ 64 = search rules in
    given_reported c.args.flow plan wide c.requires.1 long (search_done plan wide _ c.search.ensures c.in-Some.is) _ c.exits-d.ensures _ c.twos-two.ensures
