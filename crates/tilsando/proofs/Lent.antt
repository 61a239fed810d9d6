-- What a caller in C gets who lends as many cells as `tilsando_bound` told (document 02, T-01): 0 from a report; from a sample never number 9, and
-- not 10 either if the record row is as long.
use mathlib.Core.Path.{◌≡◌, refl, sym, ap, ◌∙◌, subst}
use mathlib.Core.Bool.{Bool}
use mathlib.Core.List.{List, [], ◌∷◌}
use Prim.Native.Nat.{ℕ, ◌+◌, ◌%◌, ◌≤◌}
use native.Mathlib.Omega.{arith}
use lib.IntN.{ℤ}
use lib.ListN.{length}
use Rattle.flow.specs.Limits.{max_instructions, max_tapes}
use Rattle.flow.specs.Read.{read_flow}
use Rattle.flow.specs.Refusals.{number_of}
use Rattle.flow.specs.declared.Refusal.{Refusal}
use Rattle.flow.specs.declared.Refusal.TheVariants.{TooLong, NoLastEnd, UnknownWord, WrongCount, BadNumber, OutOfRange, OutOfTurn, NoSuchTarget, TooManyLines, NoInstruction, TooFewCells, ShortRow, NoSuchExit, WrongTapes}
use Rattle.std.specs.Prelude.{Option, Some, Result, Ok, Err}
use Rattle.sample.specs.declared.SampleAnswer.{SampleAnswer}
use Rattle.tape_maker.specs.Bound.{bound_in}
use Rattle.tape_maker.specs.Report.{ReportIs}
use Rattle.tape_maker.specs.Sample.{SampleIs}
use Rattle.tape_maker.specs.declared.ReportAnswer.{ReportAnswer}
use Rattle.tape_maker.proofs.BoundLaws.{bound_report, bound-sample}
use Rattle.tilsando.specs.Exports.{Told, report_values, sample_values, ReportTold, SampleTold}
use Rattle.tilsando.proofs.Codes.{code_parts}

-- the numbers 9 and 10 name one refusal each
named : (why : Refusal) → (number_of why ≡ 9 → why ≡ TooFewCells) × (number_of why ≡ 10 → why ≡ ShortRow)
named TooLong = ((λ e. absurd (omega arith)), (λ e. absurd (omega arith)))
named NoLastEnd = ((λ e. absurd (omega arith)), (λ e. absurd (omega arith)))
named (UnknownWord line) = ((λ e. absurd (omega arith)), (λ e. absurd (omega arith)))
named (WrongCount line) = ((λ e. absurd (omega arith)), (λ e. absurd (omega arith)))
named (BadNumber line) = ((λ e. absurd (omega arith)), (λ e. absurd (omega arith)))
named (OutOfRange line) = ((λ e. absurd (omega arith)), (λ e. absurd (omega arith)))
named (OutOfTurn line) = ((λ e. absurd (omega arith)), (λ e. absurd (omega arith)))
named (NoSuchTarget line) = ((λ e. absurd (omega arith)), (λ e. absurd (omega arith)))
named TooManyLines = ((λ e. absurd (omega arith)), (λ e. absurd (omega arith)))
named NoInstruction = ((λ e. absurd (omega arith)), (λ e. absurd (omega arith)))
named TooFewCells = ((λ e. refl), (λ e. absurd (omega arith)))
named ShortRow = ((λ e. absurd (omega arith)), (λ e. refl))
named NoSuchExit = ((λ e. absurd (omega arith)), (λ e. absurd (omega arith)))
named WrongTapes = ((λ e. absurd (omega arith)), (λ e. absurd (omega arith)))

module _ (text : List ℕ) (n : ℕ) (e : bound_in (read_flow text) ≡ Ok (Some n)) where
  pub report_returned : {cells cells' : List (List ℕ)} {a : Result ReportAnswer Refusal} (rows rows' : List (List ℕ)) (returned : ℕ) → n ≤ length cells
      → ReportIs text cells cells' a → ReportTold a rows rows' returned → returned ≡ 0
  unfolding Told
  report_returned {a = a} rows rows' returned h is told =
      let sizes = max_instructions ∷ max_instructions ∷ max_instructions ∷ 2 ∷ [] in
      let (report, given, _) = bound_report text n e a h is in
      (subst (λ (r : Result ReportAnswer Refusal). Told sizes (report_values r) rows rows' returned) given told).0

  pub sample_returned : {i : ℕ} {exit : Bool} {cells cells' : List (List ℕ)} {row row' : List ℤ} {a : Result (Option SampleAnswer) Refusal}
      (rows rows' : List (List ℕ)) (returned : ℕ) → n ≤ length cells → SampleIs text i exit cells cells' row row' a → SampleTold a rows rows' returned
      → (returned % 256 ≡ 9 → ⊥) × (n ≤ length row → returned % 256 ≡ 10 → ⊥)
  unfolding Told
  sample_returned {row = row} {a = a} rows rows' returned h is told = by a refl told
    where
      by : (r : Result (Option SampleAnswer) Refusal) → a ≡ r → Told ((2 + max_tapes) ∷ []) (sample_values r) rows rows' returned
          → (returned % 256 ≡ 9 → ⊥) × (n ≤ length row → returned % 256 ≡ 10 → ⊥)
      by (Ok sample) q t = let z = t.0 in ((λ x. omega arith), (λ k x. omega arith))
      by (Err why) q t =
          let (few, short) = bound-sample text n e a h is in
          let number : returned % 256 ≡ number_of why = ap (λ (c : ℕ). c % 256) t.0 ∙ (code_parts why).2 in
          let refusal : (w : Refusal) → why ≡ w → a ≡ Err w = λ w s. q ∙ ap Err s in (
            (λ x. few (refusal TooFewCells ((named why).0 (sym number ∙ x)))),
            (λ k x. short k (refusal ShortRow ((named why).1 (sym number ∙ x)))),
          )
