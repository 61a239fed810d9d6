-- `flow_bound::bound_of` meets its contract: the factors, and the answer for their product.
use Prim.Native.Nat.{ℕ, ◌*◌, ◌^◌}
use mathlib.Core.Path.{◌≡◌, refl, sym, ap, ap₂, ◌∙◌}
use native.Mathlib.Omega.{arith}
use borrow.Author.Rules.{rules}
use borrow.Author.Tests.{lt-ltb, le-ltb}
use lib.ListN.{length}
use lib.Seq.{length-take-le}
use Rattle.model.specs.Language.{C1, C2}
use Rattle.model.specs.Pattern.{width_of}
use Rattle.patterns.specs.Patterns.{patterns_of}
use Rattle.cells.specs.Cells.{most_cells}
use Rattle.flow.specs.Inner.Rows.{flow_of}
use Rattle.flow_bound.specs.Bound.{bound_of, bound_answer}
use Rattle.flow_bound.specs.Inner.Capped.{capped_cells}
use Rattle.flow_bound.proofs.CapLaws.{answer_product}
use Rattle.flow_bound.proofs.Factors.{legal-width, rows-count}
use Rattle.flow_bound.proofs.bound_of.Goals.{After-times_plus-n}
use Rattle.flow_bound.proofs.bound_of.Goals as goal

-- the width is that of the flow
width_is : (c : After-times_plus-n) → let rows = c.args.flow in c.width-w.result ≡ width_of (C1 (flow_of rows)) (C2 (flow_of rows))
width_is c = let range = c.range_of.ensures in c.width-w.ensures ∙ ap₂ width_of range.0 range.1

-- the answer for what was computed is that for the bound
answer_is : (c : After-times_plus-n) → bound_answer c.times_plus-n.result ≡ bound_answer (bound_of (flow_of c.args.flow))
unfolding bound_of flow_of
answer_is c =
    let rows = c.args.flow in
    let long : length rows.instructions ≡ 64 = search rules in
    let number = c.pattern_count-patterns.ensures.0 ∙ ap (λ w. capped_cells (patterns_of rows.variables w)) (width_is c) in
    let instructions = rows-count rows rows.count (sym (length-take-le rows.count rows.instructions (omega (arith, c.requires.1)))) in
    answer_product rows.count rows.tapes c.tape_sets-ends.result c.pattern_count-patterns.result c.times_plus.result
    c.times_plus-n.result _ c.tape_sets-ends.ensures.0 number (omega (arith, c.times_plus.ensures.0)) (omega (arith, c.times_plus-n.ensures.0))
    ∙ ap (λ (i : ℕ). bound_answer (i * (2 ^ rows.tapes) * patterns_of rows.variables (width_of (C1 (flow_of rows)) (C2 (flow_of rows))))) instructions

pub tape_sets-ends-requires : goal.tape_sets-ends-requires
unfolding flow_of
tape_sets-ends-requires c = c.requires.0.tapes

pub pattern_count-patterns-requires : goal.pattern_count-patterns-requires
unfolding flow_of
pattern_count-patterns-requires c = let legal = c.requires.0 in
    let range = c.range_of.ensures in
    (legal.variables.0, legal.variables.1, omega (arith, c.width-w.ensures ∙ ap₂ width_of range.0 range.1, legal-width (flow_of c.args.flow) legal))

pub returns-then-over : goal.returns-then-over
unfolding bound_answer
returns-then-over c = sym (rw (lt-ltb most_cells c.times_plus-n.result c.if-over.true) refl) ∙ answer_is (goal.at.returns-then-over c).After-times_plus-n

pub returns-else-over : goal.returns-else-over
unfolding bound_answer
returns-else-over c = sym (rw (le-ltb most_cells c.times_plus-n.result c.if-over.false) refl) ∙ answer_is (goal.at.returns-else-over c).After-times_plus-n
