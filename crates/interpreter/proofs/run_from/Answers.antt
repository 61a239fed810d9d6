-- `run_from` meets its contract. The invariant is `Running` (RunLaws), the measure what is left of the limit; each of the three answers
-- cites the law on that end, and the turn cites `running_on` with what the calls ensure.
use mathlib.Core.Path.{◌≡◌, refl, sym, ◌∙◌}
use mathlib.Core.Bool.{Bool, true, false, ◌&&◌}
use mathlib.Core.List.{[]}
use Prim.Native.Nat.{ℕ, ◌-◌, ◌≤◌, ◌<◌}
use native.Mathlib.Omega.{arith}
use lib.Dec.{leb}
use lib.ListN.{get_or}
use borrow.Author.Tests.{le-leb, lt-leb}
use denote.Enum.Bare.{sameb}
use Rattle.flow.specs.Code.{row}
use Rattle.flow.specs.contracts.Kind.{the_type}
use Rattle.flow.specs.declared.Instruction.{Instruction as Row}
use Rattle.flow.specs.declared.Kind.{Kind}
use Rattle.flow.specs.declared.Kind.TheVariants.{Read, Put, Stop}
use Rattle.flow.proofs.RowLaws.{tried}
use Rattle.interpreter.proofs.RowLaws.{row_fits}
use Rattle.interpreter.proofs.RunLaws.{running_start, running_on, counts-below, ends_stopped, ends_spent, ends-full}
use Rattle.interpreter.specs.Inner.Arrays.{stops, outputs}
use Rattle.interpreter.proofs.run_from.Goals.{Joined-eq-2, then-eq-2, else-eq-2}
use Rattle.interpreter.proofs.run_from.Goals as goal

-- what stands past the rows
abbrev past : Row
past = row Read []

-- ---- the tests before a step
stops_is : (k : Kind) (b : Bool) → b ≡ sameb the_type k Stop → stops k ≡ b
stops_is k b e = sym (e ∙ tried (λ j. sameb the_type j Stop) stops refl k)

outputs_is : (k : Kind) (b : Bool) → b ≡ sameb the_type k Put → outputs k ≡ b
outputs_is k b e = sym (e ∙ tried (λ j. sameb the_type j Put) outputs refl k)

-- said by what `full` tells, so that it does not matter how the code tests it
full_put : (k : Kind) (cells puts : ℕ) (full : Bool) → true ≡ sameb the_type k Put → (full ≡ true → cells ≤ puts) → (full ≡ false → puts < cells)
    → outputs k && leb cells puts ≡ full
full_put k cells puts true e few room = rw (outputs_is k true e) (le-leb cells puts (few refl))
full_put k cells puts false e few room = rw (outputs_is k true e) (lt-leb cells puts (room refl))

full_other : (k : Kind) (cells puts : ℕ) (full : Bool) → false ≡ sameb the_type k Put → full ≡ false → outputs k && leb cells puts ≡ full
full_other k cells puts full e h = rw (outputs_is k false e) (sym h)

full_is : (c : Joined-eq-2) → outputs (get_or c.args.flow.instructions (c.loop-flow.next - 1) past).kind && leb c.args.cells c.loop-flow.puts ≡ c.if-eq-2.full
full_is c = elim c.if-eq-2.branch [
  | then-eq-2 w ↦ full_put _ _ _ _ w.if-eq-2.ensures (λ t. grind arith) (λ t. grind arith)
  | else-eq-2 w ↦ full_other _ _ _ _ w.if-eq-2.ensures (w.full-is ∙ c.eq-in-loop-flow.ensures ∙ sym w.if-eq-2.ensures)
]

strictly : (n k : ℕ) → n ≤ k → (n ≡ k → ⊥) → n < k
strictly n k h e = omega arith

-- ---- the needs
pub loop-flow-init : goal.loop-flow-init
loop-flow-init c = running_start _ _ _ _ _ _ _ _ c.requires.legal c.requires.placed

pub put-puts-requires-clause-row_fits : goal.put-puts-requires-clause-row_fits
put-puts-requires-clause-row_fits c = row_fits c.args.flow c.loop-flow.next c.loop-flow.invariant.shows.named past c.requires.legal

pub step-went-requires-clause-row_fits : goal.step-went-requires-clause-row_fits
step-went-requires-clause-row_fits c = row_fits c.args.flow c.loop-flow.next c.loop-flow.invariant.shows.named past c.requires.legal

pub count-requires-clause-i_bound : goal.count-requires-clause-i_bound
count-requires-clause-i_bound c = counts-below _ _ _ _ _ _ _ _ c.requires.legal c.requires.cells_in_bounds _ _ c.loop-flow.invariant past
    (strictly _ _ c.loop-flow.invariant.within c.if-spent.false) c.requires.limit_le_max_steps

pub loop-flow-preserved : goal.loop-flow-preserved
loop-flow-preserved c = running_on _ _ _ _ _ _ _ _ c.requires.legal c.requires.cells_in_bounds _ _ c.loop-flow.invariant past
    (strictly _ _ c.loop-flow.invariant.within c.if-spent.false)
    (stops_is _ false c.if-eq.ensures)
    (full_is (goal.at.loop-flow-preserved c).Joined-eq-2 ∙ c.if-full.false)
    (record {
      puts = c.put-puts.ensures.value;
      numbers = c.put-puts.ensures.numbers_after;
      values = c.put-puts.ensures.values_after;
      stepped = c.step-went.ensures;
      p = c.count.ensures.p_after;
      m = c.count.ensures.m_after;
      next = refl;
    })

-- ---- the three ends
pub returns-then-eq : goal.returns-then-eq
returns-then-eq c =
    let a = ends_stopped _ _ _ _ _ _ _ _ c.requires.legal c.requires.cells_in_bounds _ _ c.loop-flow.invariant past (stops_is _ true c.if-eq.ensures) in
    record { value = a.0; numbers_after = a.1.0; values_after = a.1.1 }

pub returns-then-spent : goal.returns-then-spent
returns-then-spent c =
    let a = ends_spent _ _ _ _ _ _ _ _ c.requires.legal c.requires.cells_in_bounds _ _ c.loop-flow.invariant past (stops_is _ false c.if-eq.ensures) c.if-spent.true in
    record { value = a.0; numbers_after = a.1.0; values_after = a.1.1 }

pub returns-then-full : goal.returns-then-full
returns-then-full c =
    let full = full_is (goal.at.returns-then-full c).Joined-eq-2 ∙ c.if-full.true in
    let a = ends-full _ _ _ _ _ _ _ _ c.requires.legal c.requires.cells_in_bounds _ _ c.loop-flow.invariant past
    (stops_is _ false c.if-eq.ensures) (strictly _ _ c.loop-flow.invariant.within c.if-spent.false) full in
    record { value = a.0; numbers_after = a.1.0; values_after = a.1.1 }
