-- A run of a legal flow stands at one of its instructions: it starts at instruction 1, and each step stays or goes on to a target.
use mathlib.Core.Bool.{Bool, true, false, cond}
use mathlib.Core.List.{List, [], ◌∷◌}
use Prim.Native.Nat.{ℕ, zero, suc, ◌≤◌}
use native.Mathlib.Omega.{arith}
use lib.IntN.{ℤ}
use lib.Signed.{lt_z}
use lib.ListN.{length}
use Rattle.model.specs.Language.{Flow}
use Rattle.model.specs.Machine.{State, run}
use Rattle.model.specs.Inner.View.{View, reads, sets, tests, goes, stops, view_at, term, Targeted}
use Rattle.model.proofs.View.{on_tape, taken, step_view}
use Rattle.model.proofs.Runs.{run_end}
use Rattle.flow.specs.Legal.{Legal}
use Rattle.flow.proofs.Tests.{legal-targets}

-- what holds of every target, and of the instruction about to be run, holds of the one after a step
module _ (P : ℕ → Type 0) (s : State) where
  read_targeted : (l : List ℤ) (a v p m : ℕ) → P p × P m → P (taken l a v p m s).next
  read_targeted [] a v p m h = h.1
  read_targeted (x ∷ rest) a v p m h = h.0

  test_targeted : (b : Bool) (p m : ℕ) → P p × P m → P (cond b p m)
  test_targeted true p m h = h.0
  test_targeted false p m h = h.1

  pub step_targeted : (x : View) → Targeted P x → P s.next → P (step_view x s).next
  step_targeted (reads a v p m) h here = read_targeted (on_tape s a) a v p m h
  step_targeted (sets t v n) h here = h
  step_targeted (tests t u p m) h here = test_targeted (lt_z (term s.variables t) (term s.variables u)) p m h
  step_targeted (goes n) h here = h
  step_targeted stops h here = here

module _ {flow : Flow} (l : Legal flow) (tapes : List (List ℤ)) where
  pub run-stands : (n : ℕ) → (1 ≤ (run flow tapes n).next) × ((run flow tapes n).next ≤ length flow.instructions)
  run-stands zero = (omega arith, l.size.0)
  run-stands (suc n) =
      let s = run flow tapes n in
      let Named : ℕ → Type 0 = λ k. (1 ≤ k) × (k ≤ length flow.instructions) in
      rw (run_end flow tapes n) (step_targeted Named s (view_at flow s.next) (legal-targets Named flow (λ k h. h) l s.next) (run-stands n))
