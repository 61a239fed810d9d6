-- How long the run of a sample takes (document 02, T-04: a distance counts exits, a run counts steps). It takes its exit within as many steps as there
-- are reachable configurations, so within as many as there are cells, of which 65,536 at most are used; a run may have 1,000,000 steps.
use mathlib.Core.Path.{◌≡◌, subst}
use mathlib.Core.Bool.{Bool}
use mathlib.Core.List.{List}
use Prim.Native.Nat.{ℕ, ◌≤◌}
use native.Mathlib.Omega.{arith}
use lib.IntN.{ℤ}
use lib.ListN.{take}
use Rattle.model.specs.Language.{Flow}
use Rattle.model.specs.Machine.{Exit, exit_if}
use Rattle.model.specs.Distance.{StepTakes}
use Rattle.model.specs.Tapes.{tapes_in}
use Rattle.model.proofs.LeastSteps.{steps-within}
use Rattle.flow.specs.Legal.{Legal}
use Rattle.std.specs.Prelude.{Some, Result, Ok}
use Rattle.flow.specs.Read.{read_flow}
use Rattle.flow.specs.declared.Refusal.{Refusal}
use Rattle.flow.proofs.Tests.{ranges-sound}
use Rattle.flow.proofs.LegalLaws.{read-legal}
use Rattle.cells.specs.Cells.{most_cells, cells_of}
use Rattle.sample.specs.declared.SampleAnswer.{SampleAnswer}
use Rattle.tape_maker.specs.Sample.{Sampled, Answered, SampleOf, SampleIs}

-- a step of the run on the tapes in the row takes the exit, and no step after that number is needed
pub record Within (flow : Flow) (i : ℕ) (e : Exit) (row : List ℤ) (r : SampleAnswer) (most : ℕ) : Type 0 where
  pub step : ℕ
  pub taking : StepTakes flow (tapes_in (take flow.tapes r.lengths) row) i e step
  pub few : step ≤ most

-- K steps are enough
pub sampled_within : {flow : Flow} → Legal flow → {i : ℕ} {e : Exit} {cells : ℕ} {row row' : List ℤ} {r : SampleAnswer}
    → (s : Sampled flow i e cells row row' r) → Within flow i e row' r s.held.number
sampled_within {flow} legal {i} {e} {row' = row'} {r = r} s =
    let sample = s.written.sample in
    let k = s.held.count in
    record {
      step = sample.takes.step;
      taking = sample.takes.taking;
      few = omega (
        arith,
        steps-within (ranges-sound flow legal.ranges) _ sample.count k.list k.census.all i e r.distance sample.distance sample.takes,
        k.is,
      );
    }

-- so are as many as there are cells, and 65,536
pub sample-within : (text : List ℕ) (flow : Flow) → read_flow text ≡ Ok flow → {i : ℕ} {exit : Bool} {cells cells' : List (List ℕ)} {row row' : List ℤ}
    {r : SampleAnswer} → SampleIs text i exit cells cells' row row' (Ok (Some r)) → Within flow i (exit_if exit) row' r (cells_of cells) × (cells_of cells ≤ most_cells)
unfolding SampleOf Answered
sample-within text flow read {i} {exit} {cells} {cells'} {row} {row'} {r} is =
    let s = subst (λ (c : Result Flow Refusal). SampleOf c i (exit_if exit) (cells_of cells) row row' (Ok (Some r))) read is.answer in
    let w = sampled_within (read-legal text flow read) s in
    (record { step = w.step; taking = w.taking; few = omega (arith, w.few, s.held.few) }, omega arith)
