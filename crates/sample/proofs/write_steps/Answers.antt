-- `write_steps` meets its contract: whatever flow the way is one of, after t steps the walk follows it.
use mathlib.Core.Path.{◌≡◌, refl, subst}
use Prim.Native.Nat.{ℕ, ◌+◌}
use native.Mathlib.Omega.{arith}
use borrow.Author.Rules.{rules}
use Rattle.search_table.proofs.Reading.{on_way}
use Rattle.sample.specs.Inner.Sampling.{Course, course_in, Following}
use Rattle.sample.proofs.Counts.{op_by_words, along_few, along_op}
use Rattle.sample.proofs.Stepping.{following_first, loop_asks, loop_follows}
use Rattle.sample.proofs.write_steps.Goals.{Start}
use Rattle.sample.proofs.write_steps.Goals as goal

abbrev way : Start → Course
way b = course_in b.args.cells.now b.args.steps b.args.coding.now.w b.args.program.now

-- ---- the needs
pub new-walk-requires : goal.new-walk-requires
new-walk-requires c = let q = c.requires.course_leads.1 in
    let few = q.passable.few in
    omega (arith, c.requires.roomy.few, along_few q c.args.steps (omega arith))

pub loop-t-init : goal.loop-t-init
loop-t-init c = let a = c.args in
    (refl, λ flow sizes q roomy e. following_first q roomy a.row.now roomy.long e)

pub words_on-here-requires : goal.words_on-here-requires
words_on-here-requires c = on_way c.args.cells.now c.requires.course_leads.1.passable c.loop-t.t (omega (arith, c.loop-t-test.true))

pub words_on-next-requires : goal.words_on-next-requires
words_on-next-requires c = on_way c.args.cells.now c.requires.course_leads.1.passable (c.loop-t.t + 1) (omega (arith, c.loop-t-test.true))

pub step-walk-requires-clause-op_fits : goal.step-walk-requires-clause-op_fits
step-walk-requires-clause-op_fits c = let q = c.requires.course_leads.1 in
    along_op q c.loop-t.t (omega (arith, c.loop-t-test.true)) (op_by_words q _ _ c.words_on-here.ensures c.index.ensures.0)

pub step-walk-requires-clause-ready : goal.step-walk-requires-clause-ready
step-walk-requires-clause-ready c = let q = c.requires.course_leads.1 in
    let follows = c.loop-t.invariant.1 _ _ q c.requires.roomy c.new-walk.ensures in
    loop_asks q c.requires.roomy c.loop-t-test.true follows (op_by_words q _ _ c.words_on-here.ensures c.index.ensures.0) c.words_on-next.ensures

pub loop-t-preserved : goal.loop-t-preserved
loop-t-preserved c = let q = c.requires.course_leads.1 in
    let s = c.step-walk.ensures in
    let op_is = op_by_words q _ _ c.words_on-here.ensures c.index.ensures.0 in (
      search rules,
      λ flow sizes q room h. loop_follows q room c.loop-t-test.true (c.loop-t.invariant.1 flow sizes q room h) op_is c.words_on-next.ensures s.0 s.1,
    )

pub returns : goal.returns
returns c = let l = c.loop-t in
    let a = c.args in
    let done : l.t ≡ a.steps = omega arith in
    λ flow q. subst (λ (n : ℕ). Following (way (goal.at.returns c).Start) flow a.sizes a.row.now n l.walk l.row) done
    (l.invariant.1 flow a.sizes q c.requires.roomy c.new-walk.ensures)
