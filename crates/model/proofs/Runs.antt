-- What every run keeps, and the law of one more record: put at the end of a tape whose end was not met, it changes nothing in the run so far, nor
-- the exits that were taken.
use mathlib.Core.Path.{◌≡◌, refl, sym, ap, ap₂, ◌∙◌, subst}
use mathlib.Core.Bool.{Bool, true, false, cond, false≢true}
use mathlib.Core.List.{List, [], ◌∷◌, ◌++◌}
use mathlib.Core.Option.{Option, none, some}
use Prim.Native.Nat.{ℕ, zero, suc, ◌+◌, ◌<◌, ◌≤◌}
use native.Mathlib.Omega.{arith}
use native.Mathlib.Decide.{ℕ_discrete}
use native.Mathlib.Numerals.{unary_clauses}
use lib.IntN.{ℤ, pos}
use lib.Signed.{lt_z}
use lib.ListN.{length, get_or, set, length-set, length-replicate}
use lib.Seq.{get_or-set_same, get_or-set_other}
use Rattle.model.specs.Language.{Flow}
use Rattle.model.specs.Machine.{State, Exit, exit_if, go_to, has_record, step, exit_of, start, steps, run}
use Rattle.model.specs.Distance.{weight, exits_taken}
use Rattle.model.proofs.Lists.{get_d_like}
use Rattle.model.proofs.View.{on_tape, taken, step_view, exit_view, step-view, exit_view_lem}
pub use Rattle.model.proofs.OneRead.{Fair, open_tape, append, more}
use Rattle.model.proofs.OneRead.{fair_taken, more_same, more-other, has_more}
use Rattle.model.specs.Inner.View.{View, reads, sets, tests, goes, stops, view_at, term}

pub steps-end : (flow : Flow) (n : ℕ) (s : State) → steps flow (suc n) s ≡ step flow (steps flow n s)
steps-end flow zero s = refl
steps-end flow (suc n) s = steps-end flow n (step flow s)

pub run_end : (flow : Flow) (tapes : List (List ℤ)) (n : ℕ)
    → run flow tapes (suc n) ≡ step_view (view_at flow (run flow tapes n).next) (run flow tapes n)
run_end flow tapes n = steps-end flow n (start flow tapes) ∙ step-view flow (run flow tapes n)

fair_next : (flow : Flow) (n : ℕ) (s : State) → Fair flow s → Fair flow (go_to n s)
fair_next flow n s k = record { values-count = k.values-count; tapes-count = k.tapes-count; ends-count = k.ends-count; spent = k.spent }

fair_step : (flow : Flow) (w : View) (s : State) → Fair flow s → Fair flow (step_view w s)
fair_step flow (reads a v p m) s k = fair_taken flow (on_tape s a) a v p m s refl k
fair_step flow (sets t v n) s k = record {
  values-count = length-set s.variables v (term s.variables t) ∙ k.values-count;
  tapes-count = k.tapes-count;
  ends-count = k.ends-count;
  spent = k.spent;
}
fair_step flow (tests x y p m) s k = fair_next flow (cond (lt_z (term s.variables x) (term s.variables y)) p m) s k
fair_step flow (goes n) s k = fair_next flow n s k
fair_step flow stops s k = k

pub fair_run : (flow : Flow) (tapes : List (List ℤ)) → length tapes ≡ flow.tapes → (n : ℕ) → Fair flow (run flow tapes n)
fair_run flow tapes h zero = record {
  values-count = length-replicate flow.variables (pos 0);
  tapes-count = h;
  ends-count = length-replicate flow.tapes false;
  spent = λ a e. absurd (false≢true (sym (get_d_like flow.tapes a false) ∙ e));
}
fair_run flow tapes h (suc n) =
    let s = run flow tapes n in
    rw (run_end flow tapes n) (fair_step flow (view_at flow s.next) s (fair_run flow tapes h n))

-- ---- one more record at the end of tape a
module _ {flow : Flow} (a : ℕ) (x : ℤ) (s : State) (k : Fair flow s) (h : a < flow.tapes) where
  step-more : (w : View) → get_or (step_view w s).ended a false ≡ false → step_view w (more a x s) ≡ more a x (step_view w s)
  step-more (reads b v p m) o = go (ℕ_discrete a b)
    where
      Same : ℕ → Type 0
      Same c = get_or (step_view (reads c v p m) s).ended a false ≡ false → step_view (reads c v p m) (more a x s) ≡ more a x (step_view (reads c v p m) s)

      offered : get_or (append s.left a x) a [] ≡ on_tape s a ++ (x ∷ [])
      offered = get_or-set_same s.left a (on_tape s a ++ (x ∷ [])) [] (omega (arith, k.tapes-count))

      go : Dec (a ≡ b) → step_view (reads b v p m) (more a x s) ≡ more a x (step_view (reads b v p m) s)
      go (yes q) = subst Same q (λ still. rw offered (more_same a x s k h (on_tape s a) v p m still)) o
      go (no q) = rw (get_or-set_other s.left a b (on_tape s a ++ (x ∷ [])) [] (λ e. q (sym e))) (more-other a x s k h (on_tape s b) b v p m q)
  step-more (sets t v n) o = refl
  step-more (tests y z p m) o = refl
  step-more (goes n) o = refl
  step-more stops o = refl

-- a tape whose end was met stays so
end-set : (l : List Bool) (a b : ℕ) → get_or l a false ≡ true → get_or (set l b true) a false ≡ true
end-set [] a b h = h
end-set (c ∷ l) zero zero h = refl
end-set (c ∷ l) zero (suc b) h = h
end-set (c ∷ l) (suc a) zero h = h
end-set (c ∷ l) (suc a) (suc b) h = end-set l a b h

end_taken : (l : List ℤ) (a b v p m : ℕ) (s : State) → get_or s.ended a false ≡ true → get_or (taken l b v p m s).ended a false ≡ true
end_taken [] a b v p m s h = end-set s.ended a b h
end_taken (x ∷ rest) a b v p m s h = h

end_stays : (w : View) (a : ℕ) (s : State) → get_or s.ended a false ≡ true → get_or (step_view w s).ended a false ≡ true
end_stays (reads b v p m) a s h = end_taken (on_tape s b) a b v p m s h
end_stays (sets t v n) a s h = h
end_stays (tests x y p m) a s h = h
end_stays (goes n) a s h = h
end_stays stops a s h = h

open_before : (w : View) (a : ℕ) (s : State) → get_or (step_view w s).ended a false ≡ false → get_or s.ended a false ≡ false
open_before w a s h = go (get_or s.ended a false) refl
  where
    go : (b : Bool) → get_or s.ended a false ≡ b → get_or s.ended a false ≡ false
    go true e = absurd (false≢true (sym h ∙ end_stays w a s e))
    go false e = e

pub run_more : (flow : Flow) (tapes : List (List ℤ)) → length tapes ≡ flow.tapes → (n a : ℕ) (x : ℤ) → a < flow.tapes
    → get_or (run flow tapes n).ended a false ≡ false → run flow (append tapes a x) n ≡ more a x (run flow tapes n)
run_more flow tapes c zero a x h o = refl
run_more flow tapes c (suc n) a x h o =
    let s = run flow tapes n in
    let w = view_at flow s.next in
    let o' : get_or (step_view w s).ended a false ≡ false = ap (λ (t : State). get_or t.ended a false) (sym (run_end flow tapes n)) ∙ o in
    run_end flow (append tapes a x) n
    ∙ ap (λ (t : State). step_view (view_at flow t.next) t) (run_more flow tapes c n a x h (open_before w a s o'))
    ∙ step-more a x s (fair_run flow tapes c n) h w o'
    ∙ ap (more a x) (sym (run_end flow tapes n))

-- ---- the exits taken
pub weight-small : (o : Option Exit) → weight o ≤ 1
weight-small none = omega arith
weight-small (some e) = omega arith

-- no more than the steps
pub exits-few : (flow : Flow) (tapes : List (List ℤ)) (n : ℕ) → exits_taken flow tapes n ≤ n
exits-few flow tapes zero = omega arith
exits-few flow tapes (suc n) = omega (arith, exits-few flow tapes n, weight-small (exit_of flow (run flow tapes n)))

-- never fewer after more steps
pub exits_rise : (flow : Flow) (tapes : List (List ℤ)) (n k : ℕ) → exits_taken flow tapes n ≤ exits_taken flow tapes (n + k)
exits_rise flow tapes n zero = simp unary_clauses (omega arith)
exits_rise flow tapes n (suc k) = simp unary_clauses (omega (arith, exits_rise flow tapes n k))

-- so many up to a step as before it, and its own
pub exits-end : (flow : Flow) (tapes tapes' : List (List ℤ)) (n : ℕ) → exits_taken flow tapes n ≡ exits_taken flow tapes' n
    → exit_of flow (run flow tapes n) ≡ exit_of flow (run flow tapes' n) → exits_taken flow tapes (suc n) ≡ exits_taken flow tapes' (suc n)
exits-end flow tapes tapes' n = ap₂ (λ (d : ℕ) (o : Option Exit). d + weight o)

-- one more record at the end of a tape that has not ended leaves the exits so far
module _ (flow : Flow) (a : ℕ) (x : ℤ) (below : a < flow.tapes) where
  exit-more : (w : View) (s : State) → Fair flow s → get_or (step_view w s).ended a false ≡ false → exit_view w (more a x s) ≡ exit_view w s
  exit-more (reads b v p m) s k o = go (ℕ_discrete a b)
    where
      Same : ℕ → Type 0
      Same c = get_or (step_view (reads c v p m) s).ended a false ≡ false → exit_view (reads c v p m) (more a x s) ≡ exit_view (reads c v p m) s

      offered : get_or (append s.left a x) a [] ≡ on_tape s a ++ (x ∷ [])
      offered = get_or-set_same s.left a (on_tape s a ++ (x ∷ [])) [] (omega (arith, k.tapes-count))

      go : Dec (a ≡ b) → exit_view (reads b v p m) (more a x s) ≡ exit_view (reads b v p m) s
      go (yes q) = subst Same q (λ unended. ap (λ (c : Bool). some (exit_if c)) (ap has_record offered ∙ has_more flow a x below (on_tape s a) v p m s k refl unended)) o
      go (no q) = rw (get_or-set_other s.left a b (on_tape s a ++ (x ∷ [])) [] (λ e. q (sym e))) refl
  exit-more (sets t v n) s k o = refl
  exit-more (tests y z p m) s k o = refl
  exit-more (goes n) s k o = refl
  exit-more stops s k o = refl

  pub exits-more : (tapes : List (List ℤ)) → length tapes ≡ flow.tapes → (n : ℕ) → get_or (run flow tapes n).ended a false ≡ false
      → exits_taken flow (append tapes a x) n ≡ exits_taken flow tapes n
  exits-more tapes c zero o = refl
  exits-more tapes c (suc n) o =
      let s = run flow tapes n in
      let w = view_at flow s.next in
      let later : get_or (step_view w s).ended a false ≡ false = ap (λ (t : State). get_or t.ended a false) (sym (run_end flow tapes n)) ∙ o in
      let before = open_before w a s later in
      let same : exit_of flow (run flow (append tapes a x) n) ≡ exit_of flow s
      = ap (exit_of flow) (run_more flow tapes c n a x below before) ∙ exit_view_lem flow (more a x s)
      ∙ exit-more w s (fair_run flow tapes c n) later ∙ sym (exit_view_lem flow s) in
      exits-end flow (append tapes a x) tapes n (exits-more tapes c n before) same
