-- `fan` meets its contract: what is not open needs nothing; then come the first member, its mark and the members.
use mathlib.Core.Path.{◌≡◌, sym, ◌∙◌}
use mathlib.Core.Bool.{true}
use native.Mathlib.Omega.{arith}
use Rattle.cells.specs.Inner.Columns.{marks_field}
use Rattle.cells.proofs.Fields.{length-column, column-long}
use Rattle.search_visit.specs.Inner.Fan.{opens_of, FreshIs}
use Rattle.search_visit.specs.Inner.Visit.{VisitedIs}
use Rattle.search_visit.proofs.Marks.{met_marked}
use Rattle.search_visit.proofs.Fanning as fanning
use Rattle.search_visit.proofs.fan.Goals.{After-visit}
use Rattle.search_visit.proofs.fan.Goals as goal

open_still : (c : After-visit) → opens_of c.args.op c.args.x ≡ true
open_still c = sym c.opens.ensures ∙ c.if-not-opens.false

-- ---- the needs
pub returns-then-not-opens : goal.returns-then-not-opens
returns-then-not-opens c = fanning.shut_answer c.requires.fan_fits c.requires.search_ready _ _ (sym c.opens.ensures ∙ c.if-not-opens.true)

pub returns-in_err-entry : goal.returns-in_err-entry
unfolding VisitedIs
returns-in_err-entry c =
    rw c.from_residual.ensures (fanning.full-answer c.requires.fan_fits c.requires.search_ready _ _ (open_still (goal.at.returns-in_err-entry c).After-visit) c.take-first.ensures c.in_err-entry.ensures.visited_in _)

pub marked-requires : goal.marked-requires
unfolding VisitedIs
marked-requires c = let (l, m) = fanning.mark-room c.requires.fan_fits c.requires.search_ready _ _ (open_still (goal.at.marked-requires c).After-visit) c.take-first.ensures c.in_ok-entry.ensures.visited_in in
    (omega (arith, l, length-column marks_field c.args.cells.now, c.visit.auto.cells), omega (arith, m))

pub returns-then-marked : goal.returns-then-marked
unfolding VisitedIs FreshIs
returns-then-marked c = fanning.marked-answer c.requires.fan_fits c.requires.search_ready _ _ (open_still (goal.at.returns-then-marked c).After-visit) c.take-first.ensures c.in_ok-entry.ensures.visited_in
    _ c.in_ok-entry.ensures.fresh_in (sym c.marked.ensures ∙ c.if-marked.true)

pub mark-requires : goal.mark-requires
unfolding VisitedIs
mark-requires c = let (l, m) = fanning.mark-room c.requires.fan_fits c.requires.search_ready _ _ (open_still (goal.at.mark-requires c).After-visit) c.take-first.ensures c.in_ok-entry.ensures.visited_in in
    (omega (arith, l, length-column marks_field c.args.cells.now, c.visit.auto.cells), omega (arith, m))

pub members-requires : goal.members-requires
unfolding VisitedIs
members-requires c =
    let (filled, below, own) = fanning.first-ready c.requires.fan_fits c.requires.search_ready _ _ (open_still (goal.at.members-requires c).After-visit) c.take-first.ensures
    (met_marked _ _ _ _ _ _ _ _ _ _ c.mark.ensures.only c.in_ok-entry.ensures.visited_in) c.requires.k_lt_count in
    record { filled_in = filled; k_lt_count = below; pattern_value = own }

pub returns : goal.returns
unfolding VisitedIs FreshIs
returns c = fanning.members_answer c.requires.fan_fits c.requires.search_ready _ _ (open_still (goal.at.returns c).After-visit) c.take-first.ensures
    (met_marked _ _ _ _ _ _ _ _ _ _ c.mark.ensures.only c.in_ok-entry.ensures.visited_in) _ _ c.in_ok-entry.ensures.fresh_in
    (column-long marks_field _ _ c.visit.auto.cells) c.mark.ensures.cells_after _ _ c.members.ensures.fresh_in c.members.ensures.members_in
