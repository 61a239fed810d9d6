-- An edge is a step of L0 on a trial state, the spread of the configuration's pattern: with no record left, or with one trial record on the tape that
-- is read. A step of a run that reads none is one too, since like states make like steps, and so is a read: some trial record leads where it leads.
use mathlib.Core.Path.{◌≡◌, refl, sym, ap, ◌∙◌, subst}
use mathlib.Core.Bool.{Bool, true, false, cond}
use mathlib.Core.List.{List, [], ◌∷◌}
use mathlib.Core.Option.{Option, some}
use Prim.Native.Nat.{ℕ, suc, ◌*◌, ◌<◌}
use native.Mathlib.Omega.{arith}
use lib.IntN.{ℤ}
use lib.ListN.{length, get_or, set, replicate, length-replicate}
use lib.Seq.{get_or-set_same}
use Rattle.model.specs.Language.{Flow}
use Rattle.model.specs.Machine.{State, Exit, p_exit, exit_if, has_record, step, exit_of}
use Rattle.model.specs.Pattern.{pattern}
use Rattle.model.specs.Configuration.{Configuration, configuration}
use Rattle.model.specs.Sample.{Near}
use Rattle.model.proofs.Lists.{get_d_like}
use Rattle.model.proofs.View.{on_tape}
use Rattle.model.proofs.View.{step_view, exit_view, step-view, exit_view_lem, SoundView, sound, known}
use Rattle.model.proofs.Alike.{Alike, alike_sym, alike_set, fits_term}
use Rattle.model.proofs.Side.{spread}
use Rattle.model.proofs.Ranks.{pattern-alike, alike_spread, length-pattern}
use Rattle.model.proofs.Candidates.{candidate, spaced_spread}
use Rattle.model.proofs.Runs.{Fair, open_tape}
use Rattle.model.specs.Inner.View.{View, reads, sets, tests, goes, stops, view_at, LegalFlow}
use Rattle.model.specs.Inner.Runs.{resting}

abbrev pub trial : (lo hi : ℤ) → Flow → Configuration → State
trial lo hi flow c = resting flow c.next (spread lo hi c.marks) c.ended

abbrev pub offering : (lo hi : ℤ) → Flow → Configuration → ℕ → ℤ → State
offering lo hi flow c a y =
    record { next = c.next; variables = spread lo hi c.marks; left = set (replicate flow.tapes []) a (y ∷ []); ended = c.ended }

-- the configuration after a read of y into lane v, on to p
abbrev pub fed_with : (lo hi : ℤ) → (v p : ℕ) → ℤ → Configuration → Configuration
fed_with lo hi v p y c = record { next = p; ended = c.ended; marks = pattern lo hi (set (spread lo hi c.marks) v y) }

pub data Edge (lo hi : ℤ) (flow : Flow) (c : Configuration) : Option Exit → Configuration → Type 0 where
  still : Edge lo hi flow c (exit_of flow (trial lo hi flow c)) (configuration lo hi (step flow (trial lo hi flow c)))
  fed : (a v p m : ℕ) (y : ℤ) → view_at flow c.next ≡ reads a v p m → get_or c.ended a false ≡ false → Near lo hi (suc (2 * length c.marks)) y
      → Edge lo hi flow c (some p_exit) (fed_with lo hi v p y c)

-- `fed` is the step on the trial state with the record y on tape a
pub fed_step : (lo hi : ℤ) (flow : Flow) (c : Configuration) (a v p m : ℕ) (y : ℤ) → view_at flow c.next ≡ reads a v p m → a < flow.tapes
    → (exit_of flow (offering lo hi flow c a y) ≡ some p_exit) × (configuration lo hi (step flow (offering lo hi flow c a y)) ≡ fed_with lo hi v p y c)
fed_step lo hi flow c a v p m y i h = (
  exit_view_lem flow s ∙ ap (λ (w : View). exit_view w s) i ∙ ap (λ (q : List ℤ). some (exit_if (has_record q))) offered,
  ap (configuration lo hi) (step-view flow s ∙ ap (λ (w : View). step_view w s) i) ∙ rw offered refl,
)
  where
    s : State
    s = offering lo hi flow c a y

    offered : on_tape s a ≡ y ∷ []
    offered = get_or-set_same (replicate flow.tapes []) a (y ∷ []) [] (omega (arith, length-replicate {A = List ℤ} flow.tapes []))

-- ---- states that the graph does not tell apart
pub record Like (lo hi : ℤ) (s s' : State) : Type 0 where
  pub next : s.next ≡ s'.next
  pub ends : s.ended ≡ s'.ended
  pub values : Alike lo hi s.variables s'.variables

-- the step reads no record
abbrev pub Silent : View → State → Type 0
Silent (reads a v p m) s = on_tape s a ≡ []
Silent (sets t v n) s = Unit {0}
Silent (tests x y p m) s = Unit {0}
Silent (goes n) s = Unit {0}
Silent stops s = Unit {0}

pub silent_resting : (flow : Flow) (w : View) (k : ℕ) (v : List ℤ) (e : List Bool) → Silent w (resting flow k v e)
silent_resting flow (reads a v p m) k l e = get_d_like flow.tapes a []
silent_resting flow (sets t v n) k l e = tt
silent_resting flow (tests x y p m) k l e = tt
silent_resting flow (goes n) k l e = tt
silent_resting flow stops k l e = tt

step_like : (lo hi : ℤ) (flow : Flow) (w : View) → SoundView lo hi flow w → (s s' : State) → Like lo hi s s' → Silent w s → Silent w s'
    → (exit_view w s ≡ exit_view w s') × Like lo hi (step_view w s) (step_view w s')
step_like lo hi flow (reads a v p m) h s s' k e e' =
    (rw (e, e'), rw (e, e') (record { next = refl; ends = ap (λ q. set q a true) k.ends; values = k.values }))
step_like lo hi flow (sets t v n) h s s' k e e' =
    (refl, record { next = refl; ends = k.ends; values = alike_set v k.values (fits_term t (known lo hi flow t h.0) k.values) })
step_like lo hi flow (tests x y p m) h s s' k e e' =
    let q = k.values.order x y (known lo hi flow x h.0) (known lo hi flow y h.1) in
    (ap (λ b. some (exit_if b)) q, record { next = ap (λ b. cond b p m) q; ends = k.ends; values = k.values })
step_like lo hi flow (goes n) h s s' k e e' = (refl, record { next = refl; ends = k.ends; values = k.values })
step_like lo hi flow stops h s s' k e e' = (refl, k)

-- the next step is an edge
abbrev pub Moves : (lo hi : ℤ) → Flow → State → Type 0
Moves lo hi flow s = Edge lo hi flow (configuration lo hi s) (exit_of flow s) (configuration lo hi (step flow s))

module _ {lo hi : ℤ} {flow : Flow} (l : LegalFlow lo hi flow) where
  like_configuration : (s s' : State) → Like lo hi s s' → configuration lo hi s ≡ configuration lo hi s'
  like_configuration s s' k = λ i. record { next = k.next i; ended = k.ends i; marks = pattern-alike l.zero k.values i }

  -- a step that reads no record is the step of the trial state
  pub silent_step : (s : State) → Silent (view_at flow s.next) s
      → (exit_of flow (trial lo hi flow (configuration lo hi s)) ≡ exit_of flow s)
      × (configuration lo hi (step flow (trial lo hi flow (configuration lo hi s))) ≡ configuration lo hi (step flow s))
  silent_step s e =
      let t = trial lo hi flow (configuration lo hi s) in
      let w = view_at flow s.next in
      let v : Alike lo hi t.variables s.variables = alike_sym (alike_spread l.zero s.variables) in
      let quiet = silent_resting flow w t.next t.variables t.ended in
      let (x, k) = step_like lo hi flow w (sound l s.next) t s (record { next = refl; ends = refl; values = v }) quiet e in
      (exit_view_lem flow t ∙ x ∙ sym (exit_view_lem flow s), like_configuration (step flow t) (step flow s) (rw (step-view flow t, step-view flow s) k))

  pub silent_edge : (s : State) (w : View) → view_at flow s.next ≡ w → Silent w s → Moves lo hi flow s
  silent_edge s w i e =
      let c = configuration lo hi s in
      let (x, g) = silent_step s (subst (λ (u : View). Silent u s) (sym i) e) in
      subst (λ (o : Option Exit). Edge lo hi flow c o (configuration lo hi (step flow s))) x
      (subst (Edge lo hi flow c (exit_of flow (trial lo hi flow c))) g still)

  pub read-edge : (s : State) → Fair flow s → (a v p m : ℕ) → view_at flow s.next ≡ reads a v p m → (t : List ℤ) → on_tape s a ≡ t → Moves lo hi flow s
  read-edge s k a v p m i [] e = silent_edge s (reads a v p m) i e
  read-edge s k a v p m i (x ∷ rest) e =
      let (y, near, fits) = candidate l.zero (length s.variables) j (spaced_spread l.zero s.variables) x in
      let alike = sym (pattern-alike l.zero (alike_set v j fits)) in
      subst (λ (o : Option Exit). Edge lo hi flow c o (configuration lo hi (step flow s))) (sym exit)
      (subst (Edge lo hi flow c (some p_exit))
      (ap (λ q. record { next = p; ended = s.ended; marks = q }) alike ∙ ap (configuration lo hi) (sym goes_on))
      (fed a v p m y i (open_tape k a e) (subst (λ (n : ℕ). Near lo hi (suc (2 * n)) y) (sym (length-pattern l.zero s.variables)) near)))
    where
      c : Configuration
      c = configuration lo hi s

      j : Alike lo hi s.variables (spread lo hi (pattern lo hi s.variables))
      j = alike_spread l.zero s.variables

      exit : exit_of flow s ≡ some p_exit
      exit = exit_view_lem flow s ∙ ap (λ (w : View). exit_view w s) i ∙ ap (λ (q : List ℤ). some (exit_if (has_record q))) e

      goes_on : step flow s ≡ record { next = p; variables = set s.variables v x; left = set s.left a rest; ended = s.ended }
      goes_on = step-view flow s ∙ ap (λ (w : View). step_view w s) i ∙ rw e refl
