-- `settle` meets its contract: where the step goes on without an exit, what follows is all that the entry leads to; else there is nothing to store.
use mathlib.Core.Path.{◌≡◌, sym, ◌∙◌, subst}
use mathlib.Core.Bool.{true}
use native.Mathlib.Omega.{arith}
use borrow.Author.Rules.{rules}
use Rattle.std.specs.Prelude.{option_map}
use Rattle.configuration.specs.Inner.Step.{goes_on_of}
use Rattle.configuration.proofs.WordExits.{goes_on_free}
use Rattle.search_visit.specs.Inner.Fan.{FanFits}
use Rattle.search_visit.proofs.Fanning.{shut_answer, next-answer}
use Rattle.search.proofs.Exploring.{entry-room, goes_on_shut, settle_none, expand_every, expanded_by}
use Rattle.search.proofs.settle.Goals.{After-words_at-x}
use Rattle.search.proofs.settle.Goals as goal

going_on : (c : After-words_at-x) → goes_on_of c.args.op ≡ true
going_on c = sym c.goes_on.ensures ∙ c.if-not-goes_on.false

fine : (c : After-words_at-x) → FanFits c.args.coding.now.w c.args.op c.words_at-x.result
fine c = subst (FanFits c.args.coding.now.w c.args.op) (sym c.words_at-x.ensures) c.requires.fan_fits

-- ---- the needs
pub returns-then-not-goes_on : goal.returns-then-not-goes_on
returns-then-not-goes_on c = settle_none _ c.requires.search_ready c.requires.i_lt_count (sym c.goes_on.ensures ∙ c.if-not-goes_on.true)

pub words_at-x-requires : goal.words_at-x-requires
words_at-x-requires c = entry-room _ c.requires.search_ready c.requires.i_lt_count

pub get-d-requires : goal.get-d-requires
get-d-requires c = (entry-room _ c.requires.search_ready c.requires.i_lt_count, omega arith)

pub returns : goal.returns
returns c =
    let d = (goal.at.returns c).After-words_at-x in
    let counted : c.map.result ≡ option_map (λ v. v.count) c.visit.result = search rules in
    rw counted (expanded_by _ _ _ _ _ _ _ _ _
    (expand_every _ _ _ _ _ _ _ _ _ (goes_on_free _ (going_on d)) _
    (next-answer (fine d) _ _ _ _ _ _ _ (shut_answer (fine d) c.requires.search_ready _ _ (goes_on_shut _ _ (going_on d))) c.follow-y.ensures _ _
    c.visit.ensures.fresh_in c.visit.ensures.visited_in)) c.words_at-x.ensures (omega (arith, c.get-d.ensures)))
