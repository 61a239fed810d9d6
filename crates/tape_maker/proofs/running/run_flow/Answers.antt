-- `run_flow` meets its contract: lengths that are not those of the tapes, and a run on the tapes in the row.
use mathlib.Core.Path.{sym, ap, ◌∙◌, subst⁻¹}
use mathlib.Core.List.{List}
use Prim.Native.Nat.{ℕ, ◌≤◌}
use borrow.Author.Rules.{rules}
use lib.ListN.{length}
use Rattle.model.specs.Tapes.{total}
use Rattle.interpreter.specs.Run.{Outcome, row_run, ran_of, written, tapes_put, values_put}
use Rattle.tape_maker.proofs.RunLaws.{wrong_count, wrong_sum, three-fit, right_tapes, refused_is, ran_is}
use Rattle.flow.specs.Inner.Rows.{flow_of}
use Rattle.tape_maker.proofs.running.run_flow.Goals.{then-lengths-flow-via-then-lengths-flow, then-lengths-flow-via-else-lengths-flow+then-not-adds_up}
use Rattle.tape_maker.proofs.running.run_flow.Goals as goal

pub returns-then-lengths-flow : goal.returns-then-lengths-flow
unfolding flow_of
returns-then-lengths-flow c = let a = c.args in
    elim c.then-lengths-flow.branch [
      | then-lengths-flow-via-then-lengths-flow w ↦ refused_is _ _ _ _ _ _
          (wrong_count (flow_of a.flow) a.limit a.records.now a.lengths.now a.numbers.now a.values.now w.if-lengths-flow.true) (search rules) (search rules)
      | then-lengths-flow-via-else-lengths-flow+then-not-adds_up w ↦ refused_is _ _ _ _ _ _
          (wrong_sum (flow_of a.flow) a.limit a.records.now a.lengths.now a.numbers.now a.values.now w.if-lengths-flow.false
          (sym w.adds_up.ensures ∙ w.if-not-adds_up.true)) (search rules) (search rules)
    ]

pub run-requires-clause-lengths_in_bounds : goal.run-requires-clause-lengths_in_bounds
unfolding flow_of
run-requires-clause-lengths_in_bounds c = let a = c.args in
    subst⁻¹ (λ (t : List ℕ). total t ≤ length a.records.now) c.three.ensures
    (three-fit (flow_of a.flow) a.limit a.records.now a.lengths.now a.numbers.now a.values.now c.if-lengths-flow.false c.requires.tapes.1
    (sym c.adds_up.ensures ∙ c.if-not-adds_up.false))

pub returns : goal.returns
unfolding flow_of
returns c = let a = c.args in
    let e = right_tapes (flow_of a.flow) a.limit a.records.now a.lengths.now a.numbers.now a.values.now c.if-lengths-flow.false
    c.requires.tapes.1 (sym c.adds_up.ensures ∙ c.if-not-adds_up.false) in
    let w : List ℕ → Outcome = λ t. row_run (flow_of a.flow) a.limit a.records.now t a.numbers.now a.values.now in
    let t = c.three.ensures in
    let r = c.run.ensures in
    ran_is _ _ _ _ _ _ _ e (r.value ∙ ap (λ (u : List ℕ). ran_of (w u)) t)
    (r.numbers_after ∙ ap (λ (u : List ℕ). written (tapes_put (w u)) a.numbers.now) t)
    (r.values_after ∙ ap (λ (u : List ℕ). written (values_put (w u)) a.values.now) t)
