-- What a finished walk leaves in the row: if its last step takes the exit, and the number of its exits is the exit's distance, the counts
-- divide the row into a sample for the exit. The walk has four variables and three tapes, whatever the flow names.
use mathlib.Core.Path.{◌≡◌, ap, ◌∙◌, subst}
use mathlib.Core.List.{List}
use Prim.Native.Nat.{ℕ, ◌≤◌}
use lib.IntN.{ℤ}
use lib.ListN.{take}
use Rattle.model.specs.Language.{Flow}
use Rattle.model.specs.Machine.{Exit}
use Rattle.model.specs.Distance.{StepTakes, Distance}
use Rattle.model.specs.Configuration.{Configuration}
use Rattle.model.specs.Sample.{Sample}
use Rattle.model.proofs.Follow.{stands-sample}
use Rattle.model.proofs.Pad.{legal-wider, distance_widen, sample_narrow}
use Rattle.model.specs.Tapes.{tapes_in}
use Rattle.model.specs.Inner.View.{LegalFlow}
use Rattle.model.specs.Inner.Runs.{Follows, wider}
use Rattle.sample_row.specs.Inner.Reading.{tapes_written}
use Rattle.sample_row.specs.Inner.WalkFits.{WalkFits}
use Rattle.sample_row.specs.declared.Walk.{Walk}
use Rattle.sample_row.proofs.Sized.{take-tapes}
use Rattle.sample_row.proofs.WalkInvariant.{written_all}

module _ {lo hi : ℤ} {flow : Flow} (l : LegalFlow lo hi flow) (few-tapes : flow.tapes ≤ 3) (few-values : flow.variables ≤ 4)
    {sizes : List ℕ} {walk : Walk} {row : List ℤ} (fit : WalkFits lo hi sizes walk row) (all : walk.counts ≡ sizes) where
  pub sample-written : {n d r : ℕ} {v : List ℤ} {c : Configuration} → Follows lo hi (wider 3 4 flow) n d r (tapes_written walk row) v c
      → (i : ℕ) (x : Exit) → Distance flow i x d → StepTakes (wider 3 4 flow) (tapes_written walk row) i x n
      → Sample lo hi flow i x d (tapes_in (take flow.tapes walk.counts) row)
  sample-written {n} {d} q i x dist t =
      let far = distance_widen l 3 4 few-tapes few-values i x d dist in
      let wide = stands-sample (legal-wider l 3 4 few-tapes few-values) q.stands i x far t in
      let same : take flow.tapes (tapes_written walk row) ≡ tapes_in (take flow.tapes walk.counts) row
      = ap (take flow.tapes) (written_all fit all) ∙ take-tapes flow.tapes walk.counts row in
      subst (Sample lo hi flow i x d) same (sample_narrow l 3 4 few-tapes few-values i x d (tapes_written walk row) wide).0
