-- The graph of configurations. Every step of a run is an edge, by a silent step or by a read, and an edge costs what the step weighs. So a run is a
-- path, and costs the exits that it takes.
use mathlib.Core.Path.{◌≡◌, refl}
use mathlib.Core.List.{List, []}
use mathlib.Core.Option.{Option}
use Prim.Native.Nat.{ℕ, zero, suc}
use lib.IntN.{ℤ}
use lib.ListN.{length, replicate}
use Rattle.graph.specs.Inner.Graph.{Graph, Path, here, onward}
use Rattle.model.specs.Language.{Flow}
use Rattle.model.specs.Machine.{State, Exit, start, run}
use Rattle.model.specs.Configuration.{Configuration, configuration}
use Rattle.model.specs.Distance.{weight, exits_taken}
use Rattle.model.proofs.View.{on_tape}
pub use Rattle.model.proofs.Edges.{trial, offering, fed_with, Edge, still, fed, fed_step, Like, Silent, silent_resting, Moves, silent_step}
use Rattle.model.proofs.Edges.{silent_edge, read-edge}
use Rattle.model.proofs.Runs.{steps-end, Fair, fair_run}
use Rattle.model.specs.Inner.View.{View, reads, sets, tests, goes, stops, view_at, LegalFlow}

abbrev pub origin : (lo hi : ℤ) → Flow → Configuration
origin lo hi flow = configuration lo hi (start flow (replicate flow.tapes []))

abbrev pub configurations : (lo hi : ℤ) → Flow → Graph Configuration (Option Exit)
configurations lo hi flow = record { start = origin lo hi flow; Edge = Edge lo hi flow; cost = weight }

module _ {lo hi : ℤ} {flow : Flow} (l : LegalFlow lo hi flow) where
  -- every step of a run is an edge
  pub simulate : (s : State) → Fair flow s → Moves lo hi flow s
  simulate s k = go (view_at flow s.next) refl
    where
      go : (w : View) → view_at flow s.next ≡ w → Moves lo hi flow s
      go (reads a v p m) i = read-edge l s k a v p m i (on_tape s a) refl
      go (sets t v n) i = silent_edge l s (sets t v n) i tt
      go (tests x y p m) i = silent_edge l s (tests x y p m) i tt
      go (goes n) i = silent_edge l s (goes n) i tt
      go stops i = silent_edge l s stops i tt

  pub run-path : (tapes : List (List ℤ)) → length tapes ≡ flow.tapes → (n : ℕ)
      → Path (configurations lo hi flow) (exits_taken flow tapes n) (configuration lo hi (run flow tapes n))
  run-path tapes h zero = here
  run-path tapes h (suc n) =
      rw (steps-end flow n (start flow tapes)) (onward (run-path tapes h n) (simulate (run flow tapes n) (fair_run flow tapes h n)) refl)
