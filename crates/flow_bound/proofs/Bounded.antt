-- The bound holds (document 02, T-01). Every reachable configuration is one of a list of that length: each instruction with each set of tapes
-- and each pattern. So reachable configurations never outnumber the bound. No distance exceeds it, nor the number of reachable
-- configurations.
use mathlib.Core.Path.{◌≡◌, refl, sym, subst}
use mathlib.Core.Bool.{Bool, true, false}
use mathlib.Core.List.{List, [], ◌∷◌, map}
use mathlib.Core.Logic.{inl, inr}
use Prim.Native.Nat.{ℕ, suc, ◌-◌, ◌*◌, ◌^◌, ◌≤◌}
use native.Mathlib.Omega.{arith}
use lib.ListN.{length, length-map}
use Rattle.graph.specs.Lists.{In, Once, Census, MoreThan}
use Rattle.graph.proofs.Counting.{once_le, listed, length_listed, listed_in, in_map}
use Rattle.graph.proofs.Levels.{exit-within}
use Rattle.graph.specs.Inner.Graph.{here}
use Rattle.model.specs.Language.{Flow, C1, C2}
use Rattle.model.specs.Machine.{State, Exit, run}
use Rattle.model.specs.Pattern.{Mark, pattern, width_of}
use Rattle.model.specs.Distance.{Distance}
use Rattle.model.specs.Configuration.{Configuration, Reachable}
use Rattle.model.specs.Inner.View.{LegalFlow}
use Rattle.model.proofs.Lists.{all_of}
use Rattle.model.proofs.Runs.{Fair, fair_run, weight-small}
use Rattle.model.proofs.Graph.{origin, configurations}
use Rattle.model.proofs.Theorems.{Taking, exit_of-distance, reached_reachable}
use Rattle.outside.specs.Inner.Rows.{bind, rows}
use Rattle.outside.proofs.Rows.{in_bind, in_rows, length-bind, length-rows}
use Rattle.patterns.specs.Patterns.{patterns_of}
use Rattle.patterns.proofs.Patterns.{patterns, patterns-census, patterns-number}
use Rattle.flow.specs.Legal.{Legal}
use Rattle.flow.proofs.Tests.{ranges-sound}
use Rattle.flow.proofs.Standing.{run-stands}
use Rattle.flow_bound.specs.Bound.{bound_of}

-- each function of a list on each element of another: one factor of a product
module _ {A B : Type 0} where
  each : List (A → B) → List A → List B
  each fs xs = bind (λ f. map f xs) fs

  in_each_lem : (f : A → B) (x : A) (fs : List (A → B)) (xs : List A) → In f fs → In x xs → In (f x) (each fs xs)
  unfolding each
  in_each_lem f x fs xs h k = in_bind (λ g. map g xs) f (f x) fs h (in_map f x xs k)

  length-each : (fs : List (A → B)) (xs : List A) → length (each fs xs) ≡ length fs * length xs
  unfolding each
  length-each fs xs = length-bind (λ f. map f xs) (length xs) (λ f. length-map xs f) fs

-- ---- every configuration of a flow, reachable or not
abbrev bools : List Bool
bools = true ∷ false ∷ []

in_bools : (b : Bool) → In b bools
in_bools true = inl refl
in_bools false = inr (inl refl)

abbrev composed : (next : ℕ) (ended : List Bool) (marks : List Mark) → Configuration
composed i e m = record { next = i; ended = e; marks = m }

places : Flow → List ℕ
places flow = listed suc (length flow.instructions)

everywhere : Flow → List Configuration
everywhere flow = each (each (map composed (places flow)) (rows bools flow.tapes)) (patterns (C1 flow) (C2 flow) flow.variables)

module _ {flow : Flow} (l : Legal flow) where
  legal : LegalFlow (C1 flow) (C2 flow) flow
  legal = ranges-sound flow l.ranges

  reachable_everywhere : (c : Configuration) → Reachable (C1 flow) (C2 flow) flow c → In c (everywhere flow)
  unfolding everywhere places
  reachable_everywhere c r =
      subst (λ (x : Configuration). In x (everywhere flow)) r.arrives
      (in_each_lem (composed s.next s.ended) (pattern (C1 flow) (C2 flow) s.variables) _ _
      (in_each_lem (composed s.next) s.ended _ _ (in_map composed s.next (places flow) place) ends) marks)
    where
      s : State
      s = run flow r.tapes r.n

      fair : Fair flow s
      fair = fair_run flow r.tapes r.count r.n

      place : In s.next (places flow)
      place =
          let (p, q) = run-stands l r.tapes r.n in
          let e : suc (s.next - 1) ≡ s.next = omega arith in
          subst (λ (k : ℕ). In k (places flow)) e (listed_in suc (length flow.instructions) (s.next - 1) (omega arith))

      ends : In s.ended (rows bools flow.tapes)
      ends =
          subst (λ (n : ℕ). In s.ended (rows bools n)) fair.ends-count
          (in_rows bools s.ended (all_of (λ b. In b bools) in_bools s.ended))

      marks : In (pattern (C1 flow) (C2 flow) s.variables) (patterns (C1 flow) (C2 flow) flow.variables)
      marks =
          (patterns-census legal.zero flow.variables l.variables.1).all (pattern (C1 flow) (C2 flow) s.variables)
          (record { values = s.variables; size = fair.values-count; is = refl })

  everywhere_number : length (everywhere flow) ≡ bound_of flow
  unfolding everywhere places bound_of
  everywhere_number =
      let number = patterns_of flow.variables (width_of (C1 flow) (C2 flow)) in
      let factors : length (everywhere flow) ≡ length flow.instructions * (2 ^ flow.tapes) * number =
      simp (length-each, length-map, length_listed, length-rows, patterns-number legal.zero flow.variables l.variables.1) in
      omega (arith, factors)

  -- ---- reachable configurations never outnumber the bound
  once-bounded : (list : List Configuration) → Once list → ((c : Configuration) → In c list → Reachable (C1 flow) (C2 flow) flow c)
      → length list ≤ bound_of flow
  once-bounded list once only =
      omega (arith, everywhere_number, once_le list (everywhere flow) once (λ c h. reachable_everywhere c (only c h)))

  pub census-bounded : (list : List Configuration) → Census (Reachable (C1 flow) (C2 flow) flow) list → length list ≤ bound_of flow
  census-bounded list c = once-bounded list c.once c.only

  -- so many cells are never outnumbered: refusal 9 does not occur
  pub bound_suffices : (n : ℕ) → bound_of flow ≤ n → MoreThan (Reachable (C1 flow) (C2 flow) flow) n → ⊥
  bound_suffices n h x = omega (arith, x.more, once-bounded x.list x.once x.only)

  -- the start is reachable, so that the bound is never 0
  pub bound_positive : 1 ≤ bound_of flow
  bound_positive = once-bounded (origin (C1 flow) (C2 flow) flow ∷ []) (λ h. h, tt) only
    where
      only : (c : Configuration) → In c (origin (C1 flow) (C2 flow) flow ∷ []) → Reachable (C1 flow) (C2 flow) flow c
      only c (inl e) = subst (Reachable (C1 flow) (C2 flow) flow) (sym e) (reached_reachable legal (origin (C1 flow) (C2 flow) flow) (0, here))
      only c (inr h) = absurd h

  -- ---- no distance exceeds the length of a list with every reachable configuration
  distance-within : (all : List Configuration) → ((c : Configuration) → Reachable (C1 flow) (C2 flow) flow c → In c all)
      → (i : ℕ) (e : Exit) (d : ℕ) → Distance flow i e d → d ≤ length all
  distance-within all holds i e d x =
      exit-within {G = configurations (C1 flow) (C2 flow) flow} weight-small all
      (λ c r. holds c (reached_reachable legal c r)) (Taking i e) d (exit_of-distance legal i e d x)

  pub distance-counted : (list : List Configuration) → Census (Reachable (C1 flow) (C2 flow) flow) list
      → (i : ℕ) (e : Exit) (d : ℕ) → Distance flow i e d → d ≤ length list
  distance-counted list c = distance-within list c.all

  pub distance-bounded : (i : ℕ) (e : Exit) (d : ℕ) → Distance flow i e d → d ≤ bound_of flow
  distance-bounded i e d x = omega (arith, everywhere_number, distance-within (everywhere flow) reachable_everywhere i e d x)
