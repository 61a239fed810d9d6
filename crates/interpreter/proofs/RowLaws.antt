-- A row of the code's flow is the flow's instruction: it stops, puts and names what the instruction does, and a legal flow has only rows
-- that name tapes and variables that there are and go on to rows that there are.
use mathlib.Core.Path.{◌≡◌, refl, sym, subst, ap, ◌∙◌}
use mathlib.Core.Bool.{Bool, true, false, cond, false≢true}
use mathlib.Core.List.{List, [], ◌∷◌, map}
use Prim.Native.Nat.{ℕ, zero, suc, ◌-◌, ◌≤◌, ◌<◌}
use native.Mathlib.Omega.{arith}
use lib.IntN.{ℤ}
use lib.ListN.{length, get_or, take, length-take, length-map}
use lib.Seq.{get_or-take}
use Rattle.model.specs.Language.{Instruction, stop, instruction, fields}
use Rattle.model.specs.Machine.{State, value, step_by}
use Rattle.model.proofs.View.{step_by_lem}
use Rattle.model.specs.Inner.View.{view}
use Rattle.flow.specs.Legal.{Legal, head}
use Rattle.flow.specs.Read.{all, is_named}
use Rattle.flow.specs.declared.Flow.{Flow as Rows}
use Rattle.flow.specs.declared.Instruction.{Instruction as Row}
use Rattle.flow.specs.declared.Kind.{Kind}
use Rattle.flow.specs.declared.Kind.TheVariants.{Put}
use Rattle.flow.specs.Words.{built}
use Rattle.flow.proofs.RowLaws.{tried}
use Rattle.flow.proofs.Tests.{named_targets}
use Rattle.flow.proofs.Standing.{step_targeted}
use Rattle.flow.specs.Inner.Rows.{instruction_of, flow_of, numbers_in}
use Rattle.interpreter.proofs.Narrow.{ranges-fit, fit-more}
use Rattle.interpreter.specs.Inner.Arrays.{FieldsFit, RowFits, count_at, stops, outputs}
use Rattle.interpreter.specs.Run.{Output, is_stop, puts_by}

-- ---- by kind
abbrev pub putting : ℕ → ℤ → List Output
putting y x = record { tape = y; value = x } ∷ []

pub row-stops : (x : Row) → is_stop (instruction_of x) ≡ stops x.kind
row-stops x = tried (λ k. is_stop (built k (numbers_in x))) stops refl x.kind

pub row-puts : (x : Row) (s : State) → puts_by (instruction_of x) s ≡ cond (outputs x.kind) (putting (count_at x 1) (value s (count_at x 0))) []
row-puts x s = tried (λ k. puts_by (built k (numbers_in x)) s) (λ k. cond (outputs k) (putting (count_at x 1) (value s (count_at x 0))) []) refl x.kind

-- only a put puts: its numbers are a variable and an output tape
put-kind : (k : Kind) → outputs k ≡ true → k ≡ Put
put-kind k e = by (outputs k) e (tried (λ j. cond (outputs j) Put j) (λ j. j) refl k)
  where
    by : (b : Bool) → b ≡ true → cond b Put k ≡ k → k ≡ Put
    by true e h = sym h
    by false e h = absurd (false≢true e)

pub put_fits : (x : Row) (t v : ℕ) → outputs x.kind ≡ true → FieldsFit t v (fields (instruction_of x)) → ((1 ≤ count_at x 0) × (count_at x 0 ≤ v)) × ((1 ≤ count_at x 1) × (count_at x 1 ≤ 255))
put_fits x t v e h = let f = subst (λ (k : Kind). FieldsFit t v (fields (built k (numbers_in x)))) (put-kind x.kind e) h in (f.0, f.1.0)

-- ---- where an instruction leads

-- a step goes on to an instruction that there is, or stays
module _ (count : ℕ) (s : State) where
  abbrev Named : ℕ → Type 0
  Named n = (1 ≤ n) × (n ≤ count)

  pub leads_on : (i : Instruction) → all (is_named count) (fields i) ≡ true → Named s.next → Named (step_by i s).next
  leads_on i e here = rw (step_by_lem i s) (step_targeted Named s (view i) (named_targets Named count (λ n h. h) i e) here)

-- ---- the rows of a legal flow

get_d_map_in : {A B : Type 0} (f : A → B) (l : List A) (k : ℕ) (d : A) (e : B) → k < length l → get_or (map f l) k e ≡ f (get_or l k d)
get_d_map_in f [] k d e h = absurd (omega arith)
get_d_map_in f (x ∷ l) zero d e h = refl
get_d_map_in f (x ∷ l) (suc k) d e h = get_d_map_in f l k d e (omega arith)

module _ (flow : Rows) (next : ℕ) (is : (1 ≤ next) × (next ≤ length (flow_of flow).instructions)) (d : Row) where
  pub row_is : instruction (flow_of flow) next ≡ instruction_of (get_or flow.instructions (next - 1) d)
  unfolding flow_of
  row_is = number next is.0 ∙ get_d_map_in instruction_of part (next - 1) d stop within
      ∙ ap instruction_of (get_or-take flow.count flow.instructions (next - 1) d counted)
    where
      part : List Row
      part = take flow.count flow.instructions

      within : next - 1 < length part
      within = omega (arith, length-map part instruction_of, is)

      counted : next - 1 < flow.count
      counted = omega (arith, length-take flow.count flow.instructions, within)

      number : (n : ℕ) → 1 ≤ n → get_or (stop ∷ map instruction_of part) n stop ≡ get_or (map instruction_of part) (n - 1) stop
      number zero h = absurd (omega arith)
      number (suc k) h = let e : suc k - 1 ≡ k = omega arith in rw e refl

  module _ (legal : Legal (flow_of flow)) where
    pub flow_fits : FieldsFit flow.tapes flow.variables (fields (instruction_of (get_or flow.instructions (next - 1) d)))
    unfolding flow_of
    flow_fits =
        subst (λ (i : Instruction). FieldsFit flow.tapes flow.variables (fields i)) row_is
        (ranges-fit (head (flow_of flow)) legal.outputs (length (flow_of flow).instructions) (fields (instruction (flow_of flow) next)) (legal.ranges next) (legal.targets next))

    pub row_fits : RowFits (get_or flow.instructions (next - 1) d)
    unfolding RowFits flow_of
    row_fits = fit-more (fields (instruction_of (get_or flow.instructions (next - 1) d))) legal.tapes.1 legal.variables.1 flow_fits
