-- `expand` meets its contract: where the steps cost 1, the fan and then the step that reads no record are all that the entry leads to; else there
-- is nothing to store.
use mathlib.Core.Path.{◌≡◌, sym, subst}
use native.Mathlib.Omega.{arith}
use borrow.Author.Rules.{rules}
use Rattle.std.specs.Prelude.{option_map}
use Rattle.configuration.specs.Inner.Step.{weight_of}
use Rattle.search_visit.specs.Inner.Fan.{FanFits}
use Rattle.search_visit.proofs.Fanning.{fan_answer, next-ready, next-answer}
use Rattle.search.proofs.Exploring.{entry-room, expand_none, expand_every, expanded_by}
use Rattle.search.proofs.expand.Goals.{After-words_at-x}
use Rattle.search.proofs.expand.Goals as goal

dear : (c : After-words_at-x) → weight_of c.args.op ≡ 1
dear c = omega (arith, c.if-weight-ne1.false, c.weight.ensures)

fine : (c : After-words_at-x) → FanFits c.args.coding.now.w c.args.op c.words_at-x.result
fine c = subst (FanFits c.args.coding.now.w c.args.op) (sym c.words_at-x.ensures) c.requires.fan_fits

-- ---- the needs
pub returns-then-weight-ne1 : goal.returns-then-weight-ne1
returns-then-weight-ne1 c = expand_none _ _ _ _ c.requires.search_ready (λ e. omega (arith, c.if-weight-ne1.true, c.weight.ensures, e))

pub words_at-x-requires : goal.words_at-x-requires
words_at-x-requires c = entry-room _ c.requires.search_ready c.requires.i_lt_count

pub get-d-requires : goal.get-d-requires
get-d-requires c = (entry-room _ c.requires.search_ready c.requires.i_lt_count, omega arith)

pub fan-requires-clause-fan_fits : goal.fan-requires-clause-fan_fits
fan-requires-clause-fan_fits c = fine (goal.at.fan-requires-clause-fan_fits c).After-words_at-x

pub returns-in_err-n : goal.returns-in_err-n
returns-in_err-n c =
    let d = (goal.at.returns-in_err-n c).After-words_at-x in
    rw c.from_residual.ensures (expanded_by _ _ _ _ _ _ _ _ _
    (expand_every _ _ _ _ _ _ _ _ _ (dear d) _ (fan_answer (fine d) _ _ _ _ _ _ c.in_err-n.ensures)) c.words_at-x.ensures (omega (arith, c.get-d.ensures)))

pub visit-requires : goal.visit-requires
visit-requires c = let (filled, stored) = next-ready (fine (goal.at.visit-requires c).After-words_at-x) _ _ _ _ _ _ _ c.in_ok-n.ensures c.requires.i_lt_count in
    record { filled_in = filled; k_lt_count = stored }

pub returns : goal.returns
returns c =
    let d = (goal.at.returns c).After-words_at-x in
    let counted : c.map.result ≡ option_map (λ v. v.count) c.visit.result = search rules in
    rw counted (expanded_by _ _ _ _ _ _ _ _ _
    (expand_every _ _ _ _ _ _ _ _ _ (dear d) _
    (next-answer (fine d) _ _ _ _ _ _ _ c.in_ok-n.ensures c.branch-y.ensures _ _
    c.visit.ensures.fresh_in c.visit.ensures.visited_in)) c.words_at-x.ensures (omega (arith, c.get-d.ensures)))
