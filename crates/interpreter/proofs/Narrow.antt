-- The code holds four variables and three tapes, a flow may declare fewer. A state that has the first of both steps as the wider one does,
-- and takes the same exits, since the instructions of the flow name no others.
use mathlib.Core.Path.{◌≡◌, refl, sym, ap, ap₂, ◌∙◌}
use mathlib.Core.Bool.{true, cond}
use mathlib.Core.List.{List, [], ◌∷◌}
use mathlib.Core.Option.{some}
use Prim.Native.Nat.{ℕ, ◌≤◌, ◌<◌}
use native.Mathlib.Omega.{arith}
use lib.IntN.{ℤ, pos}
use lib.Signed.{lt_z}
use lib.ListN.{get_or, set, take}
use lib.Seq.{get_or-take, take-set-lt}
use Rattle.model.specs.Language.{Instruction, Flow, Field, tape, output, variable, target, constant}
use Rattle.model.specs.Machine.{State, go_to, step_by, exit_if, has_record, exit_by}
use Rattle.model.proofs.View.{on_tape, taken}
use Rattle.model.proofs.View.{step_view, exit_view, step_by_lem, exit_by_lem, SoundTerm, SoundView}
use Rattle.model.specs.Inner.View.{Term, held, literal, View, reads, sets, tests, goes, stops, view, term}
use Rattle.flow.specs.Read.{all, in_range, is_named}
use Rattle.flow.specs.declared.Head.{Head}
use Rattle.flow.proofs.Tests.{and_split, counts-from-one}
use Rattle.interpreter.specs.Inner.Arrays.{FieldFits, FieldsFit}

-- ---- fields in range name tapes and variables that there are

pub ranges-fit : (h : Head) → h.outputs ≤ 3 → (n : ℕ) (fs : List Field) → all (in_range h) fs ≡ true → all (is_named n) fs ≡ true
    → FieldsFit h.tapes h.variables fs
unfolding all
ranges-fit h few n [] r s = tt
ranges-fit h few n (f ∷ fs) r s =
    let (a, b) = and_split (in_range h f) (all (in_range h) fs) r in
    let (c, d) = and_split (is_named n f) (all (is_named n) fs) s in
    (one f a c, ranges-fit h few n fs b d)
  where
    one : (f : Field) → in_range h f ≡ true → is_named n f ≡ true → FieldFits h.tapes h.variables f
    one (tape m) w v = counts-from-one m h.tapes w
    one (output m) w v = let (a, b) = counts-from-one m h.outputs w in (a, omega (arith, few, b))
    one (variable m) w v = counts-from-one m h.variables w
    one (target m) w v = (counts-from-one m n v).0
    one (constant c) w v = tt

pub fit-more : {t v t' v' : ℕ} (fs : List Field) → t ≤ t' → v ≤ v' → FieldsFit t v fs → FieldsFit t' v' fs
fit-more [] h k fit = tt
fit-more (tape n ∷ fs) h k fit = (omega (arith, fit.0), fit-more fs h k fit.1)
fit-more (output n ∷ fs) h k fit = (fit.0, fit-more fs h k fit.1)
fit-more (variable n ∷ fs) h k fit = (omega (arith, fit.0), fit-more fs h k fit.1)
fit-more (target n ∷ fs) h k fit = (fit.0, fit-more fs h k fit.1)
fit-more (constant c ∷ fs) h k fit = (tt, fit-more fs h k fit.1)

-- ---- a state with the first tapes and variables of a wider one, as many as the flow has

pub record Narrow (t v : ℕ) (s w : State) : Type 0 where
  pub next : s.next ≡ w.next
  pub variables : s.variables ≡ take v w.variables
  pub left : s.left ≡ take t w.left

module _ (flow : Flow) (s w : State) (narrow : Narrow flow.tapes flow.variables s w) where
  abbrev Both : State → State → Type 0
  Both = Narrow flow.tapes flow.variables

  pub same-value : (u : ℕ) → u < flow.variables → get_or s.variables u (pos 0) ≡ get_or w.variables u (pos 0)
  same-value u h = ap (λ (l : List ℤ). get_or l u (pos 0)) narrow.variables ∙ get_or-take flow.variables w.variables u (pos 0) h

  same_left : (a : ℕ) → a < flow.tapes → on_tape s a ≡ on_tape w a
  same_left a h = ap (λ (l : List (List ℤ)). get_or l a []) narrow.left ∙ get_or-take flow.tapes w.left a [] h

  narrow_set : (u : ℕ) (x y : ℤ) → u < flow.variables → x ≡ y → set s.variables u x ≡ take flow.variables (set w.variables u y)
  narrow_set u x y h e =
      ap₂ (λ (l : List ℤ) (z : ℤ). set l u z) narrow.variables e ∙ sym (take-set-lt flow.variables w.variables u y h)

  narrow_read : (l : List ℤ) (a u p m : ℕ) → a < flow.tapes → u < flow.variables → Both (taken l a u p m s) (taken l a u p m w)
  narrow_read [] a u p m ha hu = record { next = refl; variables = narrow.variables; left = narrow.left }
  narrow_read (x ∷ rest) a u p m ha hu =
      record {
        next = refl;
        variables = narrow_set u x x hu refl;
        left = ap (λ (l : List (List ℤ)). set l a rest) narrow.left ∙ sym (take-set-lt flow.tapes w.left a rest ha);
      }

  narrow_on : (m n : ℕ) → m ≡ n → Both (go_to m s) (go_to n w)
  narrow_on m n e = record { next = e; variables = narrow.variables; left = narrow.left }

  -- by the view of an instruction that names its own
  module _ (lo hi : ℤ) where
    same-term : (t : Term) → SoundTerm lo hi flow t → term s.variables t ≡ term w.variables t
    same-term (held u) h = same-value u h
    same-term (literal c) h = refl

    narrow_view : (x : View) → SoundView lo hi flow x → Both (step_view x s) (step_view x w)
    narrow_view (reads a u p m) h = rw (same_left a h.0) (narrow_read (on_tape w a) a u p m h.0 h.1)
    narrow_view (sets t u n) h =
        record { next = refl; variables = narrow_set u (term s.variables t) (term w.variables t) h.1 (same-term t h.0); left = narrow.left }
    narrow_view (tests t u p m) h = narrow_on _ _ (ap₂ (λ (y z : ℤ). cond (lt_z y z) p m) (same-term t h.0) (same-term u h.1))
    narrow_view (goes n) h = narrow_on n n refl
    narrow_view stops h = narrow

    exit-same : (x : View) → SoundView lo hi flow x → exit_view x s ≡ exit_view x w
    exit-same (reads a u p m) h = ap (λ (l : List ℤ). some (exit_if (has_record l))) (same_left a h.0)
    exit-same (sets t u n) h = refl
    exit-same (tests t u p m) h = ap₂ (λ (y z : ℤ). some (exit_if (lt_z y z))) (same-term t h.0) (same-term u h.1)
    exit-same (goes n) h = refl
    exit-same stops h = refl

    pub narrow_step : (i : Instruction) → SoundView lo hi flow (view i) → Both (step_by i s) (step_by i w)
    narrow_step i h = rw (step_by_lem i s, step_by_lem i w) (narrow_view (view i) h)

    pub narrow_exit : (i : Instruction) → SoundView lo hi flow (view i) → exit_by i s ≡ exit_by i w
    narrow_exit i h = exit_by_lem i s ∙ exit-same (view i) h ∙ sym (exit_by_lem i w)
