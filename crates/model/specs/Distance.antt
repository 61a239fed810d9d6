-- The distance to an exit (document 01, "Distances and configurations"), counted in exits (document 02, T-04).
use Rattle.std.specs.Prelude.{◌≡◌, List, ℕ, zero, suc, ◌+◌, ◌≤◌, ℤ, length}
use Rattle.std.proofs.Math.Option.{Option, none, some}
use Rattle.model.specs.Language.{Flow}
use Rattle.model.specs.Machine.{Exit, exit_of, run}

-- what a step weighs: 1 if it takes an exit, else 0
abbrev pub weight : Option Exit → ℕ
weight none = 0
weight (some e) = 1

-- how many exits the first n steps of the run on the tapes take
abbrev pub exits_taken : Flow → List (List ℤ) → ℕ → ℕ
exits_taken flow tapes zero = 0
exits_taken flow tapes (suc n) = exits_taken flow tapes n + weight (exit_of flow (run flow tapes n))

-- step number n of the run on the tapes takes exit e of instruction i
pub record StepTakes (flow : Flow) (tapes : List (List ℤ)) (i : ℕ) (e : Exit) (n : ℕ) : Type 0 where
  pub before : ℕ
  pub last : n ≡ suc before
  pub here : (run flow tapes before).next ≡ i
  pub exit : exit_of flow (run flow tapes before) ≡ some e

-- some step of the run takes exit e of instruction i, and d exits are taken up to and with it
pub record Takes (flow : Flow) (tapes : List (List ℤ)) (i : ℕ) (e : Exit) (d : ℕ) : Type 0 where
  pub step : ℕ
  pub taking : StepTakes flow tapes i e step
  pub exits : exits_taken flow tapes step ≡ d

-- the distance to the exit is d: some T tapes take it as exit number d of their run, and no T tapes as an earlier one
pub record Distance (flow : Flow) (i : ℕ) (e : Exit) (d : ℕ) : Type 0 where
  pub tapes : List (List ℤ)
  pub count : length tapes ≡ flow.tapes
  pub takes : Takes flow tapes i e d
  pub least : (other : List (List ℤ)) (n : ℕ) → length other ≡ flow.tapes → Takes flow other i e n → d ≤ n

-- the distance is none: no T tapes take the exit
abbrev pub NoDistance : Flow → ℕ → Exit → Type 0
NoDistance flow i e = (tapes : List (List ℤ)) (n : ℕ) → length tapes ≡ flow.tapes → Takes flow tapes i e n → ⊥

-- what a number says of the exit: its distance, or none for 0
abbrev pub Says : Flow → ℕ → Exit → ℕ → Type 0
Says flow i e zero = NoDistance flow i e
Says flow i e (suc d) = Distance flow i e (suc d)
