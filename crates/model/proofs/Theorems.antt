-- Distances and configurations, by the graph: the distance to an exit is the least cost of a path that ends with it, and none where no path does; what
-- is reachable is what paths reach. A path is realised by tapes that are read to their ends, so each distance has a sample.
use mathlib.Core.Path.{◌≡◌, refl, sym, ap, ◌∙◌, subst}
use mathlib.Core.List.{List}
use mathlib.Core.Option.{Option, some}
use Prim.Native.Nat.{ℕ, ◌+◌, ◌-◌, ◌≤◌}
use native.Mathlib.Omega.{arith}
use native.Mathlib.Decide.{ℕ_discrete}
use lib.IntN.{ℤ}
use lib.ListN.{length}
use Rattle.graph.specs.Inner.Graph.{Path, Reached, ExitPath, ExitDistance, NoExit}
use Rattle.model.specs.Language.{Flow}
use Rattle.model.specs.Machine.{Exit, step, exit_of, run}
use Rattle.model.specs.Distance.{weight, exits_taken, StepTakes, Takes, Distance, NoDistance}
use Rattle.model.specs.Pattern.{Mark}
use Rattle.model.specs.Configuration.{Configuration, configuration, Reachable}
use Rattle.model.specs.Sample.{Sample}
use Rattle.model.proofs.Runs.{fair_run, exits-few, exits_rise}
use Rattle.model.proofs.Graph.{configurations, run-path, simulate}
use Rattle.model.proofs.Follow.{stands-sample}
use Rattle.model.proofs.Path.{Real, extend, realise}
use Rattle.model.specs.Inner.View.{LegalFlow}

-- a distance is one number, and excludes that there is none
pub distance_unique : (flow : Flow) (i : ℕ) (e : Exit) (d d' : ℕ) → Distance flow i e d → Distance flow i e d' → d ≡ d'
distance_unique flow i e d d' x y = omega (arith, x.least y.tapes d' y.count y.takes, y.least x.tapes d x.count x.takes)

pub distance_excludes_none : (flow : Flow) (i : ℕ) (e : Exit) (d : ℕ) → Distance flow i e d → NoDistance flow i e → ⊥
distance_excludes_none flow i e d x none = none x.tapes d x.count x.takes

-- it is at most the number of any step that takes the exit
pub distance-steps : (flow : Flow) (i : ℕ) (e : Exit) (d : ℕ) → Distance flow i e d → (tapes : List (List ℤ)) → length tapes ≡ flow.tapes
    → (n : ℕ) → StepTakes flow tapes i e n → d ≤ n
distance-steps flow i e d x tapes h n t =
    omega (arith, x.least tapes (exits_taken flow tapes n) h (record { step = n; taking = t; exits = refl }), exits-few flow tapes n)

-- ---- the step that takes the exit: before it one exit fewer is taken
module _ {flow : Flow} {tapes : List (List ℤ)} {i : ℕ} {e : Exit} {d : ℕ} (t : Takes flow tapes i e d) where
  one-before : exits_taken flow tapes t.taking.before + 1 ≡ d
  one-before =
      ap (λ (o : Option Exit). exits_taken flow tapes t.taking.before + weight o) (sym t.taking.exit)
      ∙ ap (exits_taken flow tapes) (sym t.taking.last)
      ∙ t.exits

  -- a step up to which d exits are taken is no earlier
  no_earlier : (n : ℕ) → d ≤ exits_taken flow tapes n → t.step ≤ n
  no_earlier n far = go (ℕ_discrete (t.step - n) 0)
    where
      go : Dec (t.step - n ≡ 0) → t.step ≤ n
      go (yes q) = omega (arith, q)
      go (no q) =
          let b = t.taking.before in
          let met : n + (b - n) ≡ b = omega (arith, t.taking.last, q) in
          let rise = subst (λ (k : ℕ). exits_taken flow tapes n ≤ exits_taken flow tapes k) met (exits_rise flow tapes n (b - n)) in
          absurd (omega (arith, far, rise, one-before))

  -- at the distance it is the first step of the run that takes the exit
  pub least_first : Distance flow i e d → length tapes ≡ flow.tapes → (n : ℕ) → StepTakes flow tapes i e n → t.step ≤ n
  least_first x h n s = no_earlier n (x.least tapes (exits_taken flow tapes n) h (record { step = n; taking = s; exits = refl }))

-- the number of the exit settles the step
pub takes_step : {flow : Flow} {tapes : List (List ℤ)} {i : ℕ} {e : Exit} {d : ℕ} (t t' : Takes flow tapes i e d) → t.step ≡ t'.step
takes_step t t' = omega (arith, no_earlier t t'.step (omega (arith, t'.exits)), no_earlier t' t.step (omega (arith, t.exits)))

-- the edge that takes exit e of instruction i
abbrev pub Taking : ℕ → Exit → Configuration → Option Exit → Type 0
Taking i e c o = (c.next ≡ i) × (o ≡ some e)

-- tapes that take the exit with the last of their steps, as exit number d, and are read to their ends by then
pub record Taken (lo hi : ℤ) (flow : Flow) (i : ℕ) (e : Exit) (d : ℕ) : Type 0 where
  pub to : Configuration
  pub real : Real lo hi flow d to
  pub taking : StepTakes flow real.tapes i e real.steps

module _ {lo hi : ℤ} {flow : Flow} (l : LegalFlow lo hi flow) where
  pub takes-exit : (tapes : List (List ℤ)) → length tapes ≡ flow.tapes → (i : ℕ) (e : Exit) (d : ℕ) → Takes flow tapes i e d
      → ExitPath (configurations lo hi flow) (Taking i e) d
  takes-exit tapes h i e d t =
      let b = t.taking.before in
      let s = run flow tapes b in
      record {
        from = configuration lo hi s;
        label = exit_of flow s;
        target = configuration lo hi (step flow s);
        before = exits_taken flow tapes b;
        path = run-path l tapes h b;
        edge = simulate l s (fair_run flow tapes h b);
        wanted = (t.taking.here, t.taking.exit);
        total = sym t.exits ∙ ap (exits_taken flow tapes) t.taking.last;
      }

  pub exit_taken : (i : ℕ) (e : Exit) (d : ℕ) → ExitPath (configurations lo hi flow) (Taking i e) d → Taken lo hi flow i e d
  exit_taken i e d p =
      let (q, t) = extend l p.before p.from p.target p.label (realise l p.path) p.edge in
      subst (Taken lo hi flow i e) (sym p.total)
      (record { to = p.target; real = q; taking = subst (λ (k : ℕ). StepTakes flow q.tapes k e q.steps) p.wanted.0 (t e p.wanted.1) })

  taken_takes : (i : ℕ) (e : Exit) (d : ℕ) (q : Taken lo hi flow i e d) → Takes flow q.real.tapes i e d
  taken_takes i e d q = record { step = q.real.steps; taking = q.taking; exits = q.real.follows.stands.exits }

  -- ---- the distance to an exit is that of the graph
  pub distance_of-exit : (i : ℕ) (e : Exit) (d : ℕ) → ExitDistance (configurations lo hi flow) (Taking i e) d → Distance flow i e d
  distance_of-exit i e d x =
      let q = exit_taken i e d x.exit in
      record {
        tapes = q.real.tapes;
        count = q.real.follows.stands.count;
        takes = taken_takes i e d q;
        least = λ other n h t. x.least n (takes-exit other h i e n t);
      }

  pub exit_of-distance : (i : ℕ) (e : Exit) (d : ℕ) → Distance flow i e d → ExitDistance (configurations lo hi flow) (Taking i e) d
  exit_of-distance i e d x = record {
    exit = takes-exit x.tapes x.count i e d x.takes;
    least = λ k p. let q = exit_taken i e k p in x.least q.real.tapes k q.real.follows.stands.count (taken_takes i e k q);
  }

  pub none_of_exit : (i : ℕ) (e : Exit) → NoExit (configurations lo hi flow) (Taking i e) → NoDistance flow i e
  none_of_exit i e never tapes n h t = never n (takes-exit tapes h i e n t)

  pub exit_of-none : (i : ℕ) (e : Exit) → NoDistance flow i e → NoExit (configurations lo hi flow) (Taking i e)
  exit_of-none i e none k p = let q = exit_taken i e k p in none q.real.tapes k q.real.follows.stands.count (taken_takes i e k q)

  -- ---- what is reachable is what a path reaches
  pub reachable_reached : (c : Configuration) → Reachable lo hi flow c → Reached (configurations lo hi flow) c
  reachable_reached c r =
      (exits_taken flow r.tapes r.n, subst (Path (configurations lo hi flow) _) r.arrives (run-path l r.tapes r.count r.n))

  pub reached_reachable : (c : Configuration) → Reached (configurations lo hi flow) c → Reachable lo hi flow c
  reached_reachable c x =
      let q = realise l x.1 in
      record {
        tapes = q.tapes;
        count = q.follows.stands.count;
        n = q.steps;
        arrives = ap (configuration lo hi) q.follows.stands.is
            ∙ ap (λ (m : List Mark). record { next = c.next; ended = c.ended; marks = m }) q.follows.marks;
      }

  -- ---- there is a sample for every distance
  pub sample_of_distance : (i : ℕ) (e : Exit) (d : ℕ) → Distance flow i e d → (tapes : List (List ℤ)) × Sample lo hi flow i e d tapes
  sample_of_distance i e d x =
      let q = exit_taken i e d (exit_of-distance i e d x).exit in
      (q.real.tapes, stands-sample l q.real.follows.stands i e x q.taking)
