-- One read. It keeps what every run keeps; and one more record at the end of a tape changes nothing in it, nor whether it finds a record, if
-- the tape's end is not met by then.
use mathlib.Core.Path.{◌≡◌, refl, sym, ap, ◌∙◌}
use mathlib.Core.Bool.{Bool, true, false, false≢true}
use mathlib.Core.List.{List, [], ◌∷◌, ◌++◌}
use mathlib.Core.Logic.{◌≢◌}
use Prim.Native.Nat.{ℕ, ◌<◌}
use native.Mathlib.Omega.{arith}
use native.Mathlib.Decide.{ℕ_discrete}
use lib.IntN.{ℤ}
use lib.ListN.{length, get_or, set, length-set}
use lib.Seq.{get_or-set_same, get_or-set_other, set-set, set_comm}
use Rattle.model.specs.Language.{Flow}
use Rattle.model.specs.Machine.{State, has_record}
use Rattle.model.proofs.View.{on_tape, taken, step_view}
use Rattle.model.specs.Inner.View.{reads}

-- V values, T tapes, T ends; and nothing is left on a tape whose end was met
pub record Fair (flow : Flow) (s : State) : Type 0 where
  pub values-count : length s.variables ≡ flow.variables
  pub tapes-count : length s.left ≡ flow.tapes
  pub ends-count : length s.ended ≡ flow.tapes
  pub spent : (a : ℕ) → get_or s.ended a false ≡ true → on_tape s a ≡ []

cons_not_nil : {x : ℤ} {l : List ℤ} → x ∷ l ≡ [] → ⊥
cons_not_nil e = false≢true (sym (ap has_record e))

pub fair_taken : (flow : Flow) (l : List ℤ) (a v p m : ℕ) (s : State) → on_tape s a ≡ l → Fair flow s → Fair flow (taken l a v p m s)
fair_taken flow [] a v p m s e k = record {
  values-count = k.values-count;
  tapes-count = k.tapes-count;
  ends-count = length-set s.ended a true ∙ k.ends-count;
  spent = λ b h. go b h (ℕ_discrete b a);
}
  where
    go : (b : ℕ) → get_or (set s.ended a true) b false ≡ true → Dec (b ≡ a) → on_tape s b ≡ []
    go b h (yes q) = ap (on_tape s) q ∙ e
    go b h (no q) = k.spent b (sym (get_or-set_other s.ended a b true false q) ∙ h)
fair_taken flow (x ∷ rest) a v p m s e k = record {
  values-count = length-set s.variables v x ∙ k.values-count;
  tapes-count = length-set s.left a rest ∙ k.tapes-count;
  ends-count = k.ends-count;
  spent = λ b h. go b h (ℕ_discrete b a);
}
  where
    go : (b : ℕ) → get_or s.ended b false ≡ true → Dec (b ≡ a) → get_or (set s.left a rest) b [] ≡ []
    go b h (yes q) = absurd (cons_not_nil (sym e ∙ ap (on_tape s) (sym q) ∙ k.spent b h))
    go b h (no q) = get_or-set_other s.left a b rest [] q ∙ k.spent b h

-- a tape that holds a record has not ended
pub open_tape : {flow : Flow} {s : State} → Fair flow s → (a : ℕ) {x : ℤ} {rest : List ℤ} → on_tape s a ≡ x ∷ rest → get_or s.ended a false ≡ false
open_tape {flow} {s} k a e = go (get_or s.ended a false) refl
  where
    go : (b : Bool) → get_or s.ended a false ≡ b → get_or s.ended a false ≡ false
    go true q = absurd (cons_not_nil (sym e ∙ k.spent a q))
    go false q = q

-- ---- one more record at the end of tape a
abbrev pub append : List (List ℤ) → ℕ → ℤ → List (List ℤ)
append tapes a x = set tapes a (get_or tapes a [] ++ (x ∷ []))

abbrev pub more : ℕ → ℤ → State → State
more a x s = record { next = s.next; variables = s.variables; left = append s.left a x; ended = s.ended }

append-same : (ts : List (List ℤ)) (a : ℕ) (x : ℤ) (rest : List ℤ) → a < length ts
    → set (append ts a x) a (rest ++ (x ∷ [])) ≡ append (set ts a rest) a x
append-same ts a x rest h =
    set-set ts a (get_or ts a [] ++ (x ∷ [])) (rest ++ (x ∷ [])) ∙ sym (set-set ts a rest (rest ++ (x ∷ [])))
    ∙ ap (λ (q : List ℤ). set (set ts a rest) a (q ++ (x ∷ []))) (sym (get_or-set_same ts a rest [] h))

append-other : (ts : List (List ℤ)) (a b : ℕ) (x : ℤ) (rest : List ℤ) → a ≢ b → set (append ts a x) b rest ≡ append (set ts b rest) a x
append-other ts a b x rest ne =
    set_comm ts a b (get_or ts a [] ++ (x ∷ [])) rest ne
    ∙ ap (λ (q : List ℤ). set (set ts b rest) a (q ++ (x ∷ []))) (sym (get_or-set_other ts b a rest [] ne))

module _ {flow : Flow} (a : ℕ) (x : ℤ) (s : State) (k : Fair flow s) (h : a < flow.tapes) where
  pub more_same : (l : List ℤ) (v p m : ℕ) → get_or (taken l a v p m s).ended a false ≡ false
      → taken (l ++ (x ∷ [])) a v p m (more a x s) ≡ more a x (taken l a v p m s)
  more_same [] v p m o = absurd (false≢true (sym o ∙ get_or-set_same s.ended a true false (omega (arith, k.ends-count))))
  more_same (y ∷ rest) v p m o = rw (append-same s.left a x rest (omega (arith, k.tapes-count)))

  pub more-other : (l : List ℤ) (b v p m : ℕ) → a ≢ b → taken l b v p m (more a x s) ≡ more a x (taken l b v p m s)
  more-other [] b v p m ne = refl
  more-other (y ∷ rest) b v p m ne = rw (append-other s.left a b x rest ne)

-- nor whether a record is there
module _ (flow : Flow) (a : ℕ) (x : ℤ) (below : a < flow.tapes) where
  pub has_more : (l : List ℤ) (v p m : ℕ) (s : State) → Fair flow s → on_tape s a ≡ l → get_or (step_view (reads a v p m) s).ended a false ≡ false
      → has_record (l ++ (x ∷ [])) ≡ has_record l
  has_more [] v p m s k e o = absurd (false≢true (sym o ∙ rw e (get_or-set_same s.ended a true false (omega (arith, k.ends-count)))))
  has_more (y ∷ rest) v p m s k e o = refl
