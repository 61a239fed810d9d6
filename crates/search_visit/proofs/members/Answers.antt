-- `members` meets its contract. The loop keeps that the members by the records from the first to the one before y are stored.
use mathlib.Core.Path.{refl, ap, ◌∙◌}
use native.Mathlib.Omega.{arith}
use Rattle.pattern_word.specs.Inner.Pattern.{low, high, least_of, greatest_of, first_trial, last_trial}
use Rattle.pattern_word.proofs.Trials.{least_fits, greatest_fits}
use Rattle.cells.proofs.Marking.{fresh-none, fresh_then}
use Rattle.search_visit.specs.Inner.Visit.{VisitedIs}
use Rattle.search_visit.specs.Inner.Fan.{MembersIs, FreshIs}
use Rattle.search_visit.proofs.Growing.{kept-count}
use Rattle.search_visit.proofs.Marks.{fresh-full}
use Rattle.search_visit.proofs.Fanning.{members_none, members_more, members_full, members_all}
use Rattle.search_visit.proofs.members.Goals as goal

pub last_trial-last-requires : goal.last_trial-last-requires
last_trial-last-requires c = let a = c.args in
    omega (arith, greatest_fits a.coding.now.w a.first.pattern, ap (greatest_of (high a.coding.now.w)) c.held-values.ensures)

pub first_trial-y-requires : goal.first_trial-y-requires
first_trial-y-requires c = let a = c.args in
    omega (arith, least_fits a.coding.now.w a.first.pattern, ap (least_of low) c.held-values.ensures)

pub loop-y-init : goal.loop-y-init
loop-y-init c = record {
  kept = members_none _ _ _ _ c.requires.filled_in;
  lower = omega arith;
  fresh = fresh-none _ _;
  size = refl;
  bounds = record { first = c.first_trial-y.ensures ∙ ap first_trial c.held-values.ensures; last = c.last_trial-last.ensures ∙ ap (last_trial _) c.held-values.ensures };
}

pub visit-requires-clause-k_lt_count : goal.visit-requires-clause-k_lt_count
visit-requires-clause-k_lt_count c = omega (arith, kept-count c.loop-y.invariant.kept, c.requires.k_lt_count)

pub returns-in_err-n : goal.returns-in_err-n
unfolding MembersIs FreshIs VisitedIs
returns-in_err-n c = let i = c.loop-y.invariant in
    rw c.from_residual.ensures (record {
      members_in = members_full _ _ _ _ _ i.bounds _ i.kept i.lower (omega arith) _ c.fan_at.ensures c.in_err-n.ensures.visited_in;
      fresh_in = fresh-full _ _ _ _ _ (kept-count i.kept) i.fresh c.in_err-n.ensures.fresh_in;
    })

pub loop-y-preserved : goal.loop-y-preserved
unfolding FreshIs VisitedIs
loop-y-preserved c = let i = c.loop-y.invariant in record {
  kept = members_more _ _ _ _ _ i.bounds _ i.kept i.lower (omega arith) _ c.fan_at.ensures c.in_ok-n.ensures.visited_in;
  lower = omega (arith, i.lower);
  fresh = fresh_then _ _ _ _ _ _ (kept-count i.kept) i.fresh c.in_ok-n.ensures.fresh_in;
  size = c.visit.auto.cells ∙ i.size;
  bounds = i.bounds;
}

pub returns : goal.returns
unfolding MembersIs FreshIs
returns c = let i = c.loop-y.invariant in
    record { members_in = members_all _ _ _ _ _ i.bounds _ i.kept (omega arith); fresh_in = i.fresh }

pub returns-in_ok-n : goal.returns-in_ok-n
unfolding MembersIs FreshIs VisitedIs
returns-in_ok-n c = let i = c.loop-y.invariant in record {
  members_in = members_all _ _ _ _ _ i.bounds _ (members_more _ _ _ _ _ i.bounds _ i.kept i.lower (omega arith) _ c.fan_at.ensures c.in_ok-n.ensures.visited_in) (omega arith);
  fresh_in = fresh_then _ _ _ _ _ _ (kept-count i.kept) i.fresh c.in_ok-n.ensures.fresh_in;
}
