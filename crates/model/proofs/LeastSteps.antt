-- Tapes that take an exit at its distance meet no configuration twice before they take it: a loop that takes an exit could be cut, and one that takes
-- none never ends. So they take it with at most as many steps as there are reachable configurations (document 02, T-04: a distance counts exits, a
-- run counts steps).
use mathlib.Core.Path.{◌≡◌, refl, sym, ap, ◌∙◌, subst}
use mathlib.Core.List.{List}
use mathlib.Core.Option.{Option}
use Prim.Native.Nat.{ℕ, zero, suc, ◌+◌, ◌≤◌}
use native.Mathlib.Omega.{arith}
use lib.IntN.{ℤ}
use lib.ListN.{length}
use Rattle.graph.specs.Lists.{In}
use Rattle.graph.proofs.LeastWay.{spent, Way, QuietAlone, least-steps}
use Rattle.model.specs.Language.{Flow}
use Rattle.model.specs.Machine.{State, Exit, exit_of, start, run}
use Rattle.model.specs.Distance.{weight, exits_taken, Takes, Distance}
use Rattle.model.specs.Configuration.{Configuration, configuration, Reachable}
use Rattle.model.proofs.View.{exit_view, exit_view_lem}
use Rattle.model.proofs.Runs.{steps-end, fair_run}
use Rattle.model.proofs.Graph.{trial, Edge, still, fed, configurations, simulate}
use Rattle.model.proofs.Theorems.{Taking, exit_of-distance, reached_reachable}
use Rattle.model.specs.Inner.View.{View, reads, view_at, LegalFlow}

module _ {lo hi : ℤ} {flow : Flow} (l : LegalFlow lo hi flow) where
  -- a read takes an exit
  read_weighs : (c : Configuration) (a v p m : ℕ) → view_at flow c.next ≡ reads a v p m → weight (exit_of flow (trial lo hi flow c)) ≡ 1
  read_weighs c a v p m i =
      ap weight (exit_view_lem flow (trial lo hi flow c) ∙ ap (λ (w : View). exit_view w (trial lo hi flow c)) i)

  quiet_alone : QuietAlone (configurations lo hi flow)
  quiet_alone x y z o q still free still = (free, refl)
  quiet_alone x y z o q still free (fed a v p m u i open_still near) = absurd (omega (arith, read_weighs x a v p m i))
  quiet_alone x y z o q (fed a v p m u i open_still near) free edge = absurd (omega arith)

  module _ (tapes : List (List ℤ)) (count : length tapes ≡ flow.tapes) where
    -- the configurations of a run, and the exits of its steps
    abbrev at : ℕ → Configuration
    at n = configuration lo hi (run flow tapes n)

    abbrev taken : ℕ → Option Exit
    taken n = exit_of flow (run flow tapes n)

    run_way : (n : ℕ) → Way (configurations lo hi flow) at taken n
    run_way n = record {
      starts = refl;
      edge = λ t h. subst (λ (s : State). Edge lo hi flow (at t) (taken t) (configuration lo hi s)) (sym (steps-end flow t (start flow tapes)))
          (simulate l (run flow tapes t) (fair_run flow tapes count t));
    }

    run_spent : (n : ℕ) → spent (configurations lo hi flow) taken n ≡ exits_taken flow tapes n
    run_spent zero = refl
    run_spent (suc n) = ap (λ (d : ℕ). d + weight (taken n)) (run_spent n)

    pub steps-within : (all : List Configuration) → ((c : Configuration) → Reachable lo hi flow c → In c all)
        → (i : ℕ) (e : Exit) (d : ℕ) → Distance flow i e d → (t : Takes flow tapes i e d) → t.step ≤ length all
    steps-within all holds i e d far t =
        let b = t.taking.before in
        let w = t.taking.last in
        omega (
          arith,
          least-steps {Wanted = Taking i e} quiet_alone (run_way (suc b)) (t.taking.here, t.taking.exit)
              (omega (arith, ap weight t.taking.exit))
              (λ k p. omega (arith, (exit_of-distance l i e d far).least k p, run_spent (suc b), t.exits, ap (exits_taken flow tapes) w))
              all (λ c r. holds c (reached_reachable l c r)),
        )
