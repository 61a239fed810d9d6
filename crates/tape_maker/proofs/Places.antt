-- No promise allows a refusal with a place past 66: a text's refusal has none, and the others have place 0.
use mathlib.Core.Path.{◌≡◌, refl, sym, ap, ◌∙◌, subst}
use mathlib.Core.Bool.{Bool, true, false}
use mathlib.Core.List.{List}
use Prim.Native.Nat.{ℕ, ◌≤◌}
use native.Mathlib.Omega.{arith}
use lib.IntN.{ℤ}
use Rattle.model.specs.Language.{Flow}
use Rattle.model.specs.Machine.{Exit, exit_if}
use Rattle.std.specs.Prelude.{Option, Result, Ok, Err}
use Rattle.flow.specs.Read.{check, after, read_flow}
use Rattle.flow.specs.Refusals.{place_of}
use Rattle.flow.specs.declared.Refusal.{Refusal}
use Rattle.flow.specs.declared.Refusal.TheVariants.{WrongTapes}
use Rattle.flow.proofs.Places.{read-place}
use Rattle.interpreter.specs.Run.{Outcome, row_run}
use Rattle.interpreter.specs.declared.RunAnswer.{RunAnswer}
use Rattle.cells.specs.Cells.{cells_of}
use Rattle.sample.specs.declared.SampleAnswer.{SampleAnswer}
use Rattle.tape_maker.specs.Bound.{bound_in}
use Rattle.tape_maker.specs.Run.{tapes_fit, requested_of, requested, answer_of, RunIs}
use Rattle.tape_maker.specs.Report.{FlowReport, ReportOf, ReportIs}
use Rattle.tape_maker.specs.Sample.{Reason, no_such_exit, too_few_cells, short_row, Answered, SampleOf, SampleIs}
use Rattle.tape_maker.specs.declared.ReportAnswer.{ReportAnswer}

-- ---- a run
pub run-place : (text : List ℕ) (limit : ℕ) (row : List ℤ) (lengths numbers numbers' : List ℕ) (values values' : List ℤ) (r : Result RunAnswer Refusal)
    → RunIs (requested text limit row lengths numbers values) numbers numbers' values values' r
    → (why : Refusal) → r ≡ Err why → place_of why ≤ 66
unfolding requested requested_of answer_of
run-place text limit row lengths numbers numbers' values values' r h why e = go (read_flow text) refl (sym h.answer ∙ e)
  where
    fitting : (b : Bool) (x : Outcome) → answer_of (check b WrongTapes (Ok x)) ≡ Err why → place_of why ≤ 66
    fitting true x q = let z : ◌≡◌ {A = ℕ} 0 1 = cc in absurd (omega arith)
    fitting false x q = let f : WrongTapes ≡ why = cc in subst (λ (w : Refusal). place_of w ≤ 66) f (omega arith)

    go : (o : Result Flow Refusal) → read_flow text ≡ o
        → answer_of (after o (λ flow. requested_of flow limit row lengths numbers values)) ≡ Err why → place_of why ≤ 66
    go (Ok flow) q f = fitting (tapes_fit flow lengths row) (row_run flow limit row lengths numbers values) f
    go (Err x) q f = let g : x ≡ why = cc in read-place text why (q ∙ ap Err g)

-- ---- a report
pub report_place : (text : List ℕ) (c c' : List (List ℕ)) (r : Result ReportAnswer Refusal) → ReportIs text c c' r
    → (why : Refusal) → r ≡ Err why → place_of why ≤ 66
unfolding ReportOf FlowReport
report_place text c c' r h why e =
    go (read_flow text) refl (subst (λ (x : Result ReportAnswer Refusal). ReportOf (read_flow text) (cells_of c) x) e h.answer)
  where
    go : (o : Result Flow Refusal) → read_flow text ≡ o → ReportOf o (cells_of c) (Err why) → place_of why ≤ 66
    go (Ok flow) q x = subst (λ (w : Refusal). place_of w ≤ 66) (sym x.0) (omega arith)
    go (Err w) q x = let f : w ≡ why = cc in read-place text why (q ∙ ap Err f)

-- ---- a sample
reason_place : (flow : Flow) (i : ℕ) (e : Exit) (cells : ℕ) (row : List ℤ) (why : Refusal) → Reason flow i e cells row why → place_of why ≤ 66
reason_place flow i e cells row _ (no_such_exit p) = omega arith
reason_place flow i e cells row _ (too_few_cells w o) = omega arith
reason_place flow i e cells row _ (short_row w h s) = omega arith

pub sample-place : {text : List ℕ} {i : ℕ} {exit : Bool} {c c' : List (List ℕ)} {row row' : List ℤ} {r : Result (Option SampleAnswer) Refusal}
    → SampleIs text i exit c c' row row' r → (why : Refusal) → r ≡ Err why → place_of why ≤ 66
unfolding SampleOf Answered
sample-place {text} {i} {exit} {c} {row = row} {row' = row'} {r = r} h why e =
    go (read_flow text) refl
    (subst (λ (x : Result (Option SampleAnswer) Refusal). SampleOf (read_flow text) i (exit_if exit) (cells_of c) row row' x) e h.answer)
  where
    go : (o : Result Flow Refusal) → read_flow text ≡ o → SampleOf o i (exit_if exit) (cells_of c) row row' (Err why) → place_of why ≤ 66
    go (Ok flow) q x = reason_place flow i (exit_if exit) (cells_of c) row why x.0
    go (Err w) q x = let g = x.0 in let f : w ≡ why = cc in read-place text why (q ∙ ap Err f)

-- ---- a bound
pub bound-place : (text : List ℕ) (why : Refusal) → bound_in (read_flow text) ≡ Err why → place_of why ≤ 66
unfolding bound_in
bound-place text why e = go (read_flow text) refl e
  where
    go : (o : Result Flow Refusal) → read_flow text ≡ o → bound_in o ≡ Err why → place_of why ≤ 66
    go (Ok flow) q x = let z : ◌≡◌ {A = ℕ} 0 1 = cc in absurd (omega arith)
    go (Err w) q x = let f : w ≡ why = cc in read-place text why (q ∙ ap Err f)
