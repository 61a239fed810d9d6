-- What a bound is good for (document 02, T-01), over the promises of `bound`, `report` and `sample`. A text answered by a number is a flow whose
-- bound it is; so many cells are enough for its report and its samples, and so many records for a sample. And no distance in a report exceeds
-- K, whatever the bound.
use mathlib.Core.Path.{◌≡◌, refl, sym, ap, ◌∙◌, subst}
use mathlib.Core.Bool.{Bool, true, false, cond}
use mathlib.Core.List.{List}
use Prim.Native.Nat.{ℕ, zero, suc, ◌≤◌, ◌<◌}
use native.Mathlib.Omega.{arith}
use borrow.Author.Tests.{ltb-false}
use lib.Dec.{ltb}
use lib.IntN.{ℤ}
use lib.ListN.{length, get_or}
use Rattle.model.specs.Language.{Flow}
use Rattle.model.specs.Machine.{Exit, exit_if, p_exit, m_exit}
use Rattle.model.specs.Distance.{Distance, Says}
use Rattle.flow.specs.Limits.{max_instructions}
use Rattle.flow.specs.Legal.{Legal}
use Rattle.flow.specs.Read.{read_flow}
use Rattle.flow.specs.declared.Refusal.{Refusal}
use Rattle.flow.specs.declared.Refusal.TheVariants.{TooFewCells, ShortRow}
use Rattle.flow.proofs.LegalLaws.{read-legal}
use Rattle.cells.specs.Cells.{most_cells, cells_of}
use Rattle.std.specs.Prelude.{Option, Some, None, Result, Ok, Err}
use Rattle.sample.specs.declared.SampleAnswer.{SampleAnswer}
use Rattle.flow_bound.specs.Bound.{bound_of, bound_answer}
use Rattle.flow_bound.proofs.Bounded.{census-bounded, bound_suffices, bound_positive, distance-counted, distance-bounded}
use Rattle.tape_maker.specs.Bound.{bound_in}
use Rattle.tape_maker.specs.Report.{Outnumber, Count, Reported, FlowReport, ReportOf, ReportIs}
use Rattle.tape_maker.specs.Sample.{Reason, no_such_exit, too_few_cells, short_row, Answered, SampleOf, SampleIs}
use Rattle.tape_maker.specs.declared.ReportAnswer.{ReportAnswer}

-- ---- the answer
-- a text answered by n is a flow, n is its bound, and so many cells are used
pub record BoundFor (text : List ℕ) (n : ℕ) : Type 0 where
  pub flow : Flow
  pub read : read_flow text ≡ Ok flow
  pub is : bound_of flow ≡ n
  pub used : n ≤ most_cells

answer-is : (m n : ℕ) → bound_answer m ≡ Some n → (m ≡ n) × (n ≤ most_cells)
unfolding bound_answer
answer-is m n e = by (ltb most_cells m) refl e
  where
    by : (b : Bool) → ltb most_cells m ≡ b → cond b None (Some m) ≡ Some n → (m ≡ n) × (n ≤ most_cells)
    by true h k = let z : ◌≡◌ {A = ℕ} 0 1 = cc in absurd (omega arith)
    by false h k = let same : m ≡ n = cc in (same, omega (arith, ltb-false most_cells m h))

pub bound_for : (text : List ℕ) (n : ℕ) → bound_in (read_flow text) ≡ Ok (Some n) → BoundFor text n
unfolding bound_in
bound_for text n e = by (read_flow text) refl e
  where
    by : (o : Result Flow Refusal) → read_flow text ≡ o → bound_in o ≡ Ok (Some n) → BoundFor text n
    by (Ok flow) h k =
        let some : bound_answer (bound_of flow) ≡ Some n = cc in
        let (same, few) = answer-is (bound_of flow) n some in record { flow = flow; read = h; is = same; used = few }
    by (Err why) h k = let z : ◌≡◌ {A = ℕ} 0 1 = cc in absurd (omega arith)

-- ---- distances in a report: none exceeds K
says_within : (flow : Flow) (i : ℕ) (e : Exit) (d m : ℕ) → ((k : ℕ) → Distance flow i e k → k ≤ m) → Says flow i e d → d ≤ m
says_within flow i e zero m h s = omega arith
says_within flow i e (suc d) m h s = h (suc d) s

reported_distances : {flow : Flow} (l : Legal flow) {cells : ℕ} {r : ReportAnswer} → Reported flow cells r → (i : ℕ) → i < max_instructions
    → (get_or r.p i 0 ≤ r.configurations) × (get_or r.m i 0 ≤ r.configurations)
reported_distances {flow} l {cells} {r} a i h =
    let k = a.count in
    let few : (e : Exit) (d : ℕ) → Distance flow (suc i) e d → d ≤ r.configurations =
    λ e d x. omega (arith, distance-counted l k.list k.census (suc i) e d x, k.is) in (
      says_within flow (suc i) p_exit (get_or r.p i 0) r.configurations (few p_exit) (a.p i h),
      says_within flow (suc i) m_exit (get_or r.m i 0) r.configurations (few m_exit) (a.m i h),
    )

pub report_distances : {text : List ℕ} {cells cells' : List (List ℕ)} (r : ReportAnswer) → ReportIs text cells cells' (Ok r)
    → (i : ℕ) → i < max_instructions → (get_or r.p i 0 ≤ r.configurations) × (get_or r.m i 0 ≤ r.configurations)
unfolding ReportOf FlowReport
report_distances {text} {cells} r is i h = by (read_flow text) refl is.answer
  where
    by : (o : Result Flow Refusal) → read_flow text ≡ o → ReportOf o (cells_of cells) (Ok r)
        → (get_or r.p i 0 ≤ r.configurations) × (get_or r.m i 0 ≤ r.configurations)
    by (Ok flow) e a = reported_distances (read-legal text flow e) a i h
    by (Err why) e a = let z : ◌≡◌ {A = ℕ} 0 1 = cc in absurd (omega arith)

-- ---- lent as many cells as the answer says
module _ (text : List ℕ) (n : ℕ) (e : bound_in (read_flow text) ≡ Ok (Some n)) where
  abbrev b : BoundFor text n
  b = bound_for text n e

  legal : Legal b.flow
  legal = read-legal text b.flow b.read

  enough : (cells : List (List ℕ)) → n ≤ length cells → Outnumber b.flow (cells_of cells) → ⊥
  enough cells h = bound_suffices legal (cells_of cells) (omega (arith, b.is, b.used))

  -- the bound is not 0, which stands for over in C
  pub bound_some : 1 ≤ n
  bound_some = omega (arith, bound_positive legal, b.is)

  -- the reachable configurations are n at most
  pub bound-count : (flow : Flow) → read_flow text ≡ Ok flow → (k : ℕ) → Count flow k → k ≤ n
  bound-count flow h k c =
      let same : b.flow ≡ flow = cc (sym b.read ∙ h) in
      omega (arith, census-bounded (read-legal text flow h) c.list c.census, c.is, ap bound_of (sym same) ∙ b.is)

  -- the report is given, with K and no distance past n
  given_report : (cells : List (List ℕ)) (r : Result ReportAnswer Refusal) → n ≤ length cells → ReportOf (Ok b.flow) (cells_of cells) r
      → (a : ReportAnswer) × (r ≡ Ok a) × Reported b.flow (cells_of cells) a
  unfolding ReportOf FlowReport
  given_report cells (Ok a) h is = (a, refl, is)
  given_report cells (Err why) h (_, more) = absurd (enough cells h more)

  pub bound_report : {cells cells' : List (List ℕ)} (r : Result ReportAnswer Refusal) → n ≤ length cells → ReportIs text cells cells' r
      → (a : ReportAnswer) × (r ≡ Ok a) × (a.configurations ≤ n)
  bound_report {cells} r h is =
      let (a, given, report) = given_report cells r h (subst (λ (o : Result Flow Refusal). ReportOf o (cells_of cells) r) b.read is.answer) in
      (a, given, bound-count b.flow b.read a.configurations report.count)

  pub bound-distances : {cells cells' : List (List ℕ)} (r : ReportAnswer) → n ≤ length cells → ReportIs text cells cells' (Ok r)
      → (i : ℕ) → i < max_instructions → (get_or r.p i 0 ≤ n) × (get_or r.m i 0 ≤ n)
  bound-distances r h is i l =
      let (a, given, few) = bound_report (Ok r) h is in
      let same : r ≡ a = cc in
      let k : r.configurations ≤ n = omega (arith, few, ap (λ (x : ReportAnswer). x.configurations) same) in
      let (p, m) = report_distances r is i l in
      (omega arith, omega arith)

  -- a sample is not refused by 9; nor by 10 if the row has as many records
  why_not : {i : ℕ} {x : Exit} (cells : List (List ℕ)) {row : List ℤ} {why : Refusal} → n ≤ length cells
      → Reason b.flow i x (cells_of cells) row why → (why ≡ TooFewCells → ⊥) × (n ≤ length row → why ≡ ShortRow → ⊥)
  why_not cells h (no_such_exit w) = ((λ q. let z : ◌≡◌ {A = ℕ} 0 1 = cc in omega arith), (λ k q. let z : ◌≡◌ {A = ℕ} 0 1 = cc in omega arith))
  why_not cells h (too_few_cells w more) = absurd (enough cells h more)
  why_not {i} {x} cells h (short_row w y s) = (
    (λ q. let z : ◌≡◌ {A = ℕ} 0 1 = cc in omega arith),
    (λ k q. omega (arith, s.short, distance-bounded legal i x s.needed s.distance, b.is)),
  )

  pub bound-sample : {i : ℕ} {exit : Bool} {cells cells' : List (List ℕ)} {row row' : List ℤ} (r : Result (Option SampleAnswer) Refusal)
      → n ≤ length cells → SampleIs text i exit cells cells' row row' r
      → (r ≡ Err TooFewCells → ⊥) × (n ≤ length row → r ≡ Err ShortRow → ⊥)
  unfolding SampleOf Answered
  bound-sample {i} {exit} {cells} {cells'} {row} {row'} r h is =
      by r (subst (λ (o : Result Flow Refusal). SampleOf o i (exit_if exit) (cells_of cells) row row' r) b.read is.answer)
    where
      by : (x : Result (Option SampleAnswer) Refusal) → Answered b.flow i (exit_if exit) (cells_of cells) row row' x
          → (x ≡ Err TooFewCells → ⊥) × (n ≤ length row → x ≡ Err ShortRow → ⊥)
      by (Ok a) _ = ((λ q. let z : ◌≡◌ {A = ℕ} 0 1 = cc in omega arith), (λ k q. let z : ◌≡◌ {A = ℕ} 0 1 = cc in omega arith))
      by (Err why) (reason, _) =
          let (few, short) = why_not cells h reason in
          ((λ q. let same : why ≡ TooFewCells = cc in few same), (λ k q. let same : why ≡ ShortRow = cc in short k same))
