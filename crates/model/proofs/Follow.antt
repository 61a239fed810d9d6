-- Runs that read all of their tapes: what the loop that writes a sample keeps. A step that reads no record leaves the tapes as they are; for one that
-- reads, the records written so far are mapped by a faithful f, and the new record x is put at the end of its tape. Of f and x no more is asked.
use mathlib.Core.Path.{◌≡◌, refl, sym, ap, ap₂, ◌∙◌, subst}
use mathlib.Core.Bool.{Bool, false}
use mathlib.Core.List.{List, [], ◌∷◌, ◌++◌, map}
use mathlib.Core.Option.{Option, some}
use Prim.Native.Nat.{ℕ, zero, suc, ◌+◌, ◌<◌}
use native.Mathlib.Omega.{arith}
use lib.IntN.{ℤ, pos}
use lib.ListN.{length, get_or, set, replicate, length-set, length-map, length-replicate, length-append}
use lib.Seq.{get_or-set_same, set-set}
use Rattle.model.specs.Language.{Flow}
use Rattle.model.specs.Machine.{State, Exit, p_exit, exit_if, has_record, step, exit_of, start, run}
use Rattle.model.specs.Distance.{weight, exits_taken, StepTakes, Distance}
use Rattle.model.specs.Sample.{Near, Sample}
use Rattle.model.proofs.Lists.{all_in, all_get_d, all_set, all_snoc, all_map, all_replicate, map_replicate, get_d_like, set_like}
use Rattle.model.proofs.View.{on_tape}
use Rattle.model.proofs.View.{step_view, exit_view, step-view, exit_view_lem, SoundView, sound, known}
use Rattle.model.proofs.Faithful.{Faithful, map_state, run-map, exits-map}
use Rattle.model.proofs.Side.{near-wider, inside-near}
use Rattle.model.proofs.Room.{near-term}
use Rattle.model.proofs.Runs.{steps-end, append, more, run_more, exits-more}
use Rattle.model.specs.Inner.Lists.{All}
use Rattle.model.specs.Inner.View.{View, reads, sets, tests, goes, stops, view_at, term, LegalFlow}
use Rattle.model.specs.Inner.Runs.{resting, records, RunStands}

records-append : (ts : List (List ℤ)) (a : ℕ) (x : ℤ) → a < length ts → records (append ts a x) ≡ suc (records ts)
records-append [] a x h = absurd (omega arith)
records-append (t ∷ ts) zero x h = omega (arith, length-append t (x ∷ []))
records-append (t ∷ ts) (suc a) x h = omega (arith, records-append ts a x (omega arith))

records-map : (f : ℤ → ℤ) (ts : List (List ℤ)) → records (map (map f) ts) ≡ records ts
records-map f [] = refl
records-map f (t ∷ ts) = ap₂ ◌+◌ (length-map t f) (records-map f ts)

records-none : (n : ℕ) → records (replicate n []) ≡ 0
records-none zero = refl
records-none (suc n) = omega (arith, records-none n)

step_left : (flow : Flow) (w : View) (k : ℕ) (v : List ℤ) (e : List Bool) → (step_view w (resting flow k v e)).left ≡ replicate flow.tapes []
step_left flow (reads a u p m) k v e = rw (get_d_like {A = List ℤ} flow.tapes a []) refl
step_left flow (sets t u n) k v e = refl
step_left flow (tests x y p m) k v e = refl
step_left flow (goes n) k v e = refl
step_left flow stops k v e = refl

module _ {lo hi : ℤ} {flow : Flow} (l : LegalFlow lo hi flow) where
  pub stands-start : RunStands lo hi flow 0 0 0 (replicate flow.tapes []) 1 (replicate flow.variables (pos 0)) (replicate flow.tapes false)
  stands-start = record {
    count = length-replicate {A = List ℤ} flow.tapes [];
    is = refl;
    near = all_replicate (All (Near lo hi 0)) flow.tapes [] tt;
    values_near = all_replicate (Near lo hi 0) flow.variables (pos 0) (inside-near 0 l.zero);
    total = records-none flow.tapes;
    exits = refl;
    few = omega arith;
  }

  near_step : (r : ℕ) (w : View) → SoundView lo hi flow w → (k : ℕ) (v : List ℤ) (e : List Bool) → All (Near lo hi r) v
      → All (Near lo hi r) (step_view w (resting flow k v e)).variables
  near_step r (reads a u p m) h k v e n = rw (get_d_like {A = List ℤ} flow.tapes a []) n
  near_step r (sets t u m) h k v e n = all_set (Near lo hi r) v u (term v t) n (near-term l.zero r v n t (known lo hi flow t h.0))
  near_step r (tests x y p m) h k v e n = n
  near_step r (goes m) h k v e n = n
  near_step r stops h k v e n = n

  module _ {n d r : ℕ} {tapes : List (List ℤ)} {k : ℕ} {v : List ℤ} {e : List Bool} (s : RunStands lo hi flow n d r tapes k v e) where
    -- a step that reads no record
    abbrev pub rested_after : State
    rested_after = step flow (resting flow k v e)

    pub stands_silent : RunStands lo hi flow (suc n) (d + weight (exit_of flow (resting flow k v e))) r tapes
        rested_after.next rested_after.variables rested_after.ended
    stands_silent = record {
      count = s.count;
      is = steps-end flow n (start flow tapes) ∙ ap (step flow) s.is
          ∙ ap (λ (q : List (List ℤ)). record { next = rested_after.next; variables = rested_after.variables; left = q; ended = rested_after.ended }) emptied;
      near = s.near;
      values_near = subst (λ (t : State). All (Near lo hi r) t.variables) (sym (step-view flow (resting flow k v e)))
          (near_step r (view_at flow k) (sound l k) k v e s.values_near);
      total = s.total;
      exits = ap₂ (λ (j : ℕ) (o : Option Exit). j + weight o) s.exits (ap (exit_of flow) s.is);
      few = omega (arith, s.few);
    }
      where
        emptied : rested_after.left ≡ replicate flow.tapes []
        emptied = ap (λ (t : State). t.left) (step-view flow (resting flow k v e)) ∙ step_left flow (view_at flow k) k v e

    pub takes_silent : (x : Exit) → exit_of flow (resting flow k v e) ≡ some x → StepTakes flow tapes k x (suc n)
    takes_silent x h = record { before = n; last = refl; here = ap (λ (t : State). t.next) s.is; exit = ap (exit_of flow) s.is ∙ h }

    -- a step that reads a record
    module _ (a u p m : ℕ) (i : view_at flow k ≡ reads a u p m) (o : get_or e a false ≡ false) (f : ℤ → ℤ) (faithful : Faithful lo hi f) (x : ℤ) where
      abbrev base : List (List ℤ)
      base = map (map f) tapes

      abbrev offer : State
      offer = more a x (resting flow k (map f v) e)

      lane : a < flow.tapes
      lane = (subst (SoundView lo hi flow) i (sound l k)).0

      base_count : length base ≡ flow.tapes
      base_count = length-map tapes (map f) ∙ s.count

      mapped : run flow base n ≡ resting flow k (map f v) e
      mapped = run-map l f faithful tapes n ∙ ap (map_state f) s.is
          ∙ ap (λ (q : List (List ℤ)). record { next = k; variables = map f v; left = q; ended = e }) (map_replicate (map f) flow.tapes [] [] refl)

      open_yet : get_or (run flow base n).ended a false ≡ false
      open_yet = ap (λ (t : State). get_or t.ended a false) mapped ∙ o

      fed_run : run flow (append base a x) n ≡ offer
      fed_run = run_more flow base base_count n a x lane open_yet ∙ ap (more a x) mapped

      abbrev empty : List ℤ
      empty = get_or (replicate flow.tapes []) a []

      offered : on_tape offer a ≡ x ∷ []
      offered = get_or-set_same (replicate flow.tapes []) a (empty ++ (x ∷ [])) [] (omega (arith, length-replicate {A = List ℤ} flow.tapes [], lane))
          ∙ ap (λ (t : List ℤ). t ++ (x ∷ [])) (get_d_like flow.tapes a [])

      fed_step : step flow offer ≡ resting flow p (set (map f v) u x) e
      fed_step = step-view flow offer ∙ ap (λ (w : View). step_view w offer) i
          ∙ rw offered (ap (λ (q : List (List ℤ)). record { next = p; variables = set (map f v) u x; left = q; ended = e })
          (set-set (replicate flow.tapes []) a (empty ++ (x ∷ [])) [] ∙ set_like flow.tapes a []))

      fed_exit : exit_of flow (run flow (append base a x) n) ≡ some p_exit
      fed_exit = ap (exit_of flow) fed_run ∙ exit_view_lem flow offer ∙ ap (λ (w : View). exit_view w offer) i
          ∙ ap (λ (t : List ℤ). some (exit_if (has_record t))) offered

      fed_exits : exits_taken flow (append base a x) n ≡ d
      fed_exits = exits-more flow a x lane base base_count n open_yet ∙ exits-map l f faithful tapes n ∙ s.exits

      pub takes_fed : StepTakes flow (append (map (map f) tapes) a x) k p_exit (suc n)
      takes_fed = record {
        before = n;
        last = refl;
        here = ap (λ (t : State). t.next) fed_run;
        exit = fed_exit;
      }

      pub stands_fed : ((q : ℕ) (y : ℤ) → Near lo hi q y → Near lo hi (suc q) (f y)) → Near lo hi (suc r) x
          → RunStands lo hi flow (suc n) (d + 1) (suc r) (append (map (map f) tapes) a x) p (set (map f v) u x) e
      stands_fed fnear xnear = record {
        count = length-set base a (get_or base a [] ++ (x ∷ [])) ∙ base_count;
        is = steps-end flow n (start flow (append base a x)) ∙ ap (step flow) fed_run ∙ fed_step;
        near = all_set (All (Near lo hi (suc r))) base a (get_or base a [] ++ (x ∷ [])) base_near
            (all_snoc (Near lo hi (suc r)) (get_or base a []) x (all_get_d (All (Near lo hi (suc r))) base a [] base_near tt) xnear);
        values_near = all_set (Near lo hi (suc r)) (map f v) u x (near-map v s.values_near) xnear;
        total = records-append base a x (omega (arith, base_count, lane)) ∙ ap suc (records-map f tapes ∙ s.total);
        exits = ap₂ (λ (j : ℕ) (o : Option Exit). j + weight o) fed_exits (fed_exit);
        few = omega (arith, s.few);
      }
        where
          near-map : (t : List ℤ) → All (Near lo hi r) t → All (Near lo hi (suc r)) (map f t)
          near-map = all_map (Near lo hi r) (Near lo hi (suc r)) f (fnear r)

          base_near : All (All (Near lo hi (suc r))) base
          base_near = all_map (All (Near lo hi r)) (All (Near lo hi (suc r))) (map f) near-map tapes s.near

    -- tapes that take an exit at its distance, and are read to their ends by then, are a sample for it
    pub stands-sample : (i : ℕ) (x : Exit) → Distance flow i x d → StepTakes flow tapes i x n → Sample lo hi flow i x d tapes
    stands-sample i x far t = record {
      count = s.count;
      distance = far;
      takes = record { step = n; taking = t; exits = s.exits };
      used = ap (λ (q : State). q.left) s.is;
      near = λ tape y h j. near-wider d s.few (all_in (Near lo hi r) tape y (all_in (All (Near lo hi r)) tapes tape s.near h) j);
    }
