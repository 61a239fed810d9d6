-- What the requests answer for a text of no bytes (document 02, T-08). Its flow has one tape and the single instruction `stop`. The run on any
-- tape stays at its start: it is stopped after 0 steps, one configuration is reachable, and no exit is taken. And there is no exit that a
-- sample could be wanted for.
use mathlib.Core.Path.{◌≡◌, refl, sym, ap, ◌∙◌, subst}
use mathlib.Core.Bool.{Bool, false}
use mathlib.Core.List.{List, [], ◌∷◌}
use mathlib.Core.Logic.{inl, inr}
use Prim.Native.Nat.{ℕ, zero, suc, ◌+◌, ◌≤◌}
use native.Mathlib.Omega.{arith}
use borrow.Author.Tests.{eq-eqb, ne_eqb}
use lib.IntN.{ℤ}
use lib.ListN.{length, replicate, get_or-replicate}
use Rattle.graph.specs.Lists.{Census}
use Rattle.graph.proofs.Counting.{census_unique}
use Rattle.model.specs.Language.{instruction, has_exits, C1, C2}
use Rattle.model.specs.Machine.{start, run, Exit, p_exit, m_exit, exit_of, exit_if}
use Rattle.model.specs.Distance.{NoDistance, Says}
use Rattle.model.specs.Configuration.{Configuration, configuration, Reachable}
use Rattle.model.specs.Tapes.{tapes_in, total}
use Rattle.flow.specs.Limits.{max_instructions}
use Rattle.std.specs.Prelude.{Option, None, Some, Result, Ok, Err}
use mathlib.Core.Option as Math
use Rattle.flow.specs.Read.{only_stop, read_flow}
use Rattle.flow.specs.declared.Refusal.{Refusal}
use Rattle.flow.specs.declared.Refusal.TheVariants.{NoSuchExit, TooFewCells, WrongTapes}
use Rattle.flow.proofs.LegalLaws.{always_stop}
use Rattle.interpreter.specs.Run.{Outcome, outcome, begin, limited, row_run, ran_of, tapes_put, values_put, zero_each}
use Rattle.interpreter.specs.declared.RunEnd.TheVariants.{Stopped}
use Rattle.interpreter.specs.declared.RunAnswer.{RunAnswer}
use Rattle.cells.specs.Cells.{cells_of, zeroed}
use Rattle.sample.specs.declared.SampleAnswer.{SampleAnswer}
use Rattle.tape_maker.specs.Run.{requested_of, requested, answer_of, output_after, RunIs}
use Rattle.tape_maker.specs.Report.{Reported, FlowReport, ReportOf, ReportIs}
use Rattle.tape_maker.specs.Sample.{Wanted, Reason, no_such_exit, too_few_cells, short_row, Answered, SampleOf, SampleIs}
use Rattle.tape_maker.specs.declared.ReportAnswer.{ReportAnswer}
use Rattle.tape_maker.proofs.ReportSettles.{SameAnswer, report_settled}

-- ---- the machine
stays : (tapes : List (List ℤ)) (n : ℕ) → run only_stop tapes n ≡ start only_stop tapes
stays tapes zero = refl
stays tapes (suc n) = stays tapes n

no_exits : (i : ℕ) → has_exits (instruction only_stop i) ≡ false
no_exits i = ap has_exits (always_stop i)

not_taken : (i : ℕ) (e : Exit) → NoDistance only_stop i e
not_taken i e tapes n count t =
    let ends : ◌≡◌ {A = Math.Option Exit} Math.none (Math.some e) = sym (ap (exit_of only_stop) (stays tapes t.taking.before)) ∙ t.taking.exit in
    let z : ◌≡◌ {A = ℕ} 0 1 = cc in
    omega arith

-- ---- a run with one length, that of the row
limited-stop : (cells : Math.Option ℕ) (left : ℕ) (tapes : List (List ℤ)) → limited only_stop cells left (begin only_stop tapes) ≡ outcome Stopped (begin only_stop tapes)
unfolding limited
limited-stop cells zero tapes = refl
limited-stop cells (suc left) tapes = refl

asked : (limit : ℕ) (row : List ℤ) (numbers : List ℕ) (values : List ℤ)
    → requested [] limit row (length row ∷ []) numbers values ≡ Ok (outcome Stopped (begin only_stop (tapes_in (length row ∷ []) row)))
unfolding requested requested_of read_flow row_run total
asked limit row numbers values = rw (eq-eqb (length row + 0) (length row) (omega arith)) (ap Ok (limited-stop _ _ _))

pub no_bytes_run : (limit : ℕ) (row : List ℤ) {numbers numbers' : List ℕ} {values values' : List ℤ} (r : Result RunAnswer Refusal)
    → RunIs (requested [] limit row (length row ∷ []) numbers values) numbers numbers' values values' r
    → (r ≡ Ok (record { end = Stopped; steps = 0; puts = 0; p = zero_each; m = zero_each })) × (numbers' ≡ numbers) × (values' ≡ values)
unfolding ran_of answer_of output_after
no_bytes_run limit row {numbers} {numbers'} {values} r is = let e = asked limit row numbers values in (
  is.answer ∙ ap answer_of e,
  is.numbers_after ∙ ap (λ (o : Result Outcome Refusal). output_after tapes_put o numbers) e,
  is.values_after ∙ ap (λ (o : Result Outcome Refusal). output_after values_put o values) e,
)

-- a run with any other lengths
pub no_bytes_lengths : (limit : ℕ) (row : List ℤ) (lengths : List ℕ) (numbers : List ℕ) (values : List ℤ) → (lengths ≡ length row ∷ [] → ⊥)
    → requested [] limit row lengths numbers values ≡ Err WrongTapes
unfolding requested requested_of read_flow total
no_bytes_lengths limit row [] numbers values other = refl
no_bytes_lengths limit row (n ∷ []) numbers values other =
    rw (ne_eqb (n + 0) (length row) (λ e. other (ap (λ (k : ℕ). k ∷ []) (omega arith)))) refl
no_bytes_lengths limit row (n ∷ k ∷ ks) numbers values other = rw (ne_eqb (length (n ∷ k ∷ ks)) 1 (λ e. omega arith)) refl

-- ---- a report with at least one cell, and without cells
abbrev first : Configuration
first = configuration (C1 only_stop) (C2 only_stop) (start only_stop ([] ∷ []))

one : Census (Reachable (C1 only_stop) (C2 only_stop) only_stop) (first ∷ [])
one =
    record {
      once = ((λ h. h), tt);
      all = λ x r. inl (sym r.arrives ∙ ap (configuration (C1 only_stop) (C2 only_stop)) (stays r.tapes r.n));
      only = λ x h. elim h [ inl e ↦ record { tapes = [] ∷ []; count = refl; n = 0; arrives = sym e } | inr h ↦ absurd h ];
    }

abbrev pub stop_report : ReportAnswer
stop_report = record { instructions = 1; configurations = 1; two = replicate max_instructions false; p = zero_each; m = zero_each }

reported : (cells : ℕ) → 1 ≤ cells → Reported only_stop cells stop_report
reported cells l =
    record {
      instructions = refl;
      count = record { list = first ∷ []; census = one; is = refl };
      few = l;
      two = λ i k. get_or-replicate max_instructions i false false k ∙ sym (no_exits (suc i));
      p = λ i k. subst (Says only_stop (suc i) p_exit) (sym (get_or-replicate max_instructions i 0 0 k)) (not_taken (suc i) p_exit);
      m = λ i k. subst (Says only_stop (suc i) m_exit) (sym (get_or-replicate max_instructions i 0 0 k)) (not_taken (suc i) m_exit);
    }

pub no_bytes_report : {cells cells' : List (List ℕ)} (r : Result ReportAnswer Refusal) → 1 ≤ cells_of cells → ReportIs [] cells cells' r
    → SameAnswer r (Ok stop_report)
unfolding read_flow ReportOf FlowReport
no_bytes_report {cells} r l is =
    report_settled [] {c' = cells} {c₂ = cells} refl r (Ok stop_report) is
    (record { answer = reported (cells_of cells) l; cells_zero = λ why e. let z : ◌≡◌ {A = ℕ} 0 1 = cc in absurd (omega arith) })

pub no_bytes_no_cells : {cells cells' : List (List ℕ)} (r : Result ReportAnswer Refusal) → cells_of cells ≡ 0 → ReportIs [] cells cells' r
    → (r ≡ Err TooFewCells) × (cells' ≡ zeroed cells)
unfolding read_flow ReportOf FlowReport
no_bytes_no_cells {cells} {cells'} r zero-cells is = by r refl is.answer
  where
    by : (x : Result ReportAnswer Refusal) → r ≡ x → FlowReport only_stop (cells_of cells) x → (r ≡ Err TooFewCells) × (cells' ≡ zeroed cells)
    by (Ok report) e a =
        absurd (omega (arith, a.few, a.count.is, census_unique a.count.list (first ∷ []) a.count.census one, zero-cells))
    by (Err why) e (few, more) = (e ∙ ap Err few, is.cells_zero why e)

-- ---- a sample for any instruction and exit
pub no_bytes_sample : {i : ℕ} {exit : Bool} {cells cells' : List (List ℕ)} {row row' : List ℤ} (r : Result (Option SampleAnswer) Refusal)
    → SampleIs [] i exit cells cells' row row' r → (r ≡ Err NoSuchExit) × (row' ≡ row) × (cells' ≡ zeroed cells)
unfolding read_flow SampleOf Answered
no_bytes_sample {i} {exit} {cells} {cells'} {row} {row'} r is = by r refl is.answer
  where
    unwanted : Wanted only_stop i → ⊥
    unwanted w = let e = no_exits i in let z : ◌≡◌ {A = ℕ} 0 1 = cc in omega arith

    why_not : {why : Refusal} → Reason only_stop i (exit_if exit) (cells_of cells) row why → why ≡ NoSuchExit
    why_not (no_such_exit n) = refl
    why_not (too_few_cells w more) = absurd (unwanted w)
    why_not (short_row w held short) = absurd (unwanted w)

    by : (x : Result (Option SampleAnswer) Refusal) → r ≡ x → Answered only_stop i (exit_if exit) (cells_of cells) row row' x
        → (r ≡ Err NoSuchExit) × (row' ≡ row) × (cells' ≡ zeroed cells)
    by (Ok (Some sample)) e a = absurd (unwanted a.wanted)
    by (Ok None) e a = absurd (unwanted a.wanted)
    by (Err why) e (reason, same) = (e ∙ ap Err (why_not reason), same, is.cells_zero why e)
