-- A map of the whole numbers that keeps their order, and every number from lo to hi, commutes with runs: the run on mapped tapes is the mapped run,
-- and takes the same exits.
-- No arithmetic is in it: comparisons compare images, constants are their own images, reads and copies move values.
use mathlib.Core.Path.{◌≡◌, refl, sym, ap, ◌∙◌}
use mathlib.Core.Bool.{Bool}
use mathlib.Core.List.{List, [], ◌∷◌, map}
use mathlib.Core.Option.{some}
use Prim.Native.Nat.{ℕ, zero, suc}
use lib.IntN.{ℤ, pos}
use lib.Signed.{lt_z}
use Rattle.model.specs.Language.{Flow}
use Rattle.model.specs.Machine.{State, exit_if, has_record, exit_of, start, run}
use Rattle.model.specs.Distance.{exits_taken}
use Rattle.model.proofs.Lists.{get_d_map, set-map, map_replicate}
use Rattle.model.proofs.View.{on_tape, taken, step_view, exit_view, exit_view_lem, Known, SoundTerm, SoundView, sound, known}
use Rattle.model.proofs.Runs.{run_end, exits-end}
use Rattle.model.specs.Inner.Integers.{Inside}
use Rattle.model.specs.Inner.View.{Term, held, literal, View, reads, sets, tests, goes, stops, view_at, term, LegalFlow}

pub record Faithful (lo hi : ℤ) (f : ℤ → ℤ) : Type 0 where
  pub keeps : (x y : ℤ) → lt_z (f x) (f y) ≡ lt_z x y
  pub fixes : (c : ℤ) → Inside lo hi c → f c ≡ c

abbrev pub map_state : (ℤ → ℤ) → State → State
map_state f s = record { next = s.next; variables = map f s.variables; left = map (map f) s.left; ended = s.ended }

pub term-map : (lo hi : ℤ) (f : ℤ → ℤ) → Inside lo hi (pos 0) → Faithful lo hi f → (l : List ℤ) (t : Term) → Known lo hi t
    → term (map f l) t ≡ f (term l t)
term-map lo hi f z k l (held u) h = get_d_map f l u (pos 0) (pos 0) (k.fixes (pos 0) z)
term-map lo hi f z k l (literal c) h = sym (k.fixes c h)

taken_map : (f : ℤ → ℤ) (l : List ℤ) (a v p m : ℕ) (s : State) → taken (map f l) a v p m (map_state f s) ≡ map_state f (taken l a v p m s)
taken_map f [] a v p m s = refl
taken_map f (x ∷ rest) a v p m s = rw (set-map f s.variables v x, set-map (map f) s.left a rest)

module _ {lo hi : ℤ} {flow : Flow} (l : LegalFlow lo hi flow) (f : ℤ → ℤ) (k : Faithful lo hi f) where
  sound-map : (v : List ℤ) (t : Term) → SoundTerm lo hi flow t → term (map f v) t ≡ f (term v t)
  sound-map v t h = term-map lo hi f l.zero k v t (known lo hi flow t h)

  step_map : (w : View) → SoundView lo hi flow w → (s : State) → step_view w (map_state f s) ≡ map_state f (step_view w s)
  step_map (reads a v p m) h s = rw (get_d_map (map f) s.left a [] [] refl) (taken_map f (on_tape s a) a v p m s)
  step_map (sets t v n) h s = rw (sound-map s.variables t h.0, set-map f s.variables v (term s.variables t))
  step_map (tests x y p m) h s = rw (sound-map s.variables x h.0, sound-map s.variables y h.1, k.keeps)
  step_map (goes n) h s = refl
  step_map stops h s = refl

  pub run-map : (tapes : List (List ℤ)) (n : ℕ) → run flow (map (map f) tapes) n ≡ map_state f (run flow tapes n)
  run-map tapes zero = ap (λ (v : List ℤ). record { next = 1; variables = v; left = map (map f) tapes; ended = (start flow tapes).ended })
      (sym (map_replicate f flow.variables (pos 0) (pos 0) (k.fixes (pos 0) l.zero)))
  run-map tapes (suc n) =
      let s = run flow tapes n in
      run_end flow (map (map f) tapes) n ∙ ap (λ (t : State). step_view (view_at flow t.next) t) (run-map tapes n)
      ∙ step_map (view_at flow s.next) (sound l s.next) s ∙ ap (map_state f) (sym (run_end flow tapes n))

  -- ---- the exits taken
  record_map : (l : List ℤ) → has_record (map f l) ≡ has_record l
  record_map [] = refl
  record_map (x ∷ l) = refl

  exit-map : (w : View) → SoundView lo hi flow w → (s : State) → exit_view w (map_state f s) ≡ exit_view w s
  exit-map (reads a v p m) h s = ap (λ (b : Bool). some (exit_if b)) (ap has_record (get_d_map (map f) s.left a [] [] refl) ∙ record_map (on_tape s a))
  exit-map (sets t v n) h s = refl
  exit-map (tests x y p m) h s = rw (sound-map s.variables x h.0, sound-map s.variables y h.1, k.keeps)
  exit-map (goes n) h s = refl
  exit-map stops h s = refl

  pub exits-map : (tapes : List (List ℤ)) (n : ℕ) → exits_taken flow (map (map f) tapes) n ≡ exits_taken flow tapes n
  exits-map tapes zero = refl
  exits-map tapes (suc n) =
      let s = run flow tapes n in
      let same : exit_of flow (run flow (map (map f) tapes) n) ≡ exit_of flow s
      = ap (exit_of flow) (run-map tapes n) ∙ exit_view_lem flow (map_state f s) ∙ exit-map (view_at flow s.next) (sound l s.next) s
      ∙ sym (exit_view_lem flow s) in
      exits-end flow (map (map f) tapes) tapes n (exits-map tapes n) same
