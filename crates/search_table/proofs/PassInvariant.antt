-- What a pass keeps from entry to entry. The number that is listed for an exit changes only at the first entry that takes it.
use mathlib.Core.Path.{◌≡◌, refl, sym, ap, ◌∙◌}
use mathlib.Core.Bool.{Bool, true, false, not, cond, ◌&&◌, ◌||◌, true≢false}
use mathlib.Core.List.{List}
use Prim.Native.Nat.{ℕ, ◌+◌, ◌<◌, ◌≤◌}
use native.Mathlib.Decide.{ℕ_discrete}
use native.Mathlib.Omega.{arith}
use lib.ListN.{get_or}
use lib.Dec.{eqb}
use Rattle.std.specs.Prelude.{Option, Some, None, MatchOption}
use borrow.Author.Tests.{eq-eqb, ne_eqb}
use Rattle.graph.proofs.Wanted.{none_more}
use Rattle.model.specs.Machine.{Exit, p_exit, m_exit}
use Rattle.configuration.specs.Inner.Place.{words, at_of}
use Rattle.configuration.specs.Inner.Step.{weight_of, takes_of}
use Rattle.configuration.specs.declared.Op.{Op}
use Rattle.configuration.proofs.WordExits.{free_takes}
use Rattle.configuration.specs.declared.Words.{Words}
use Rattle.search_table.specs.Inner.Passes.{takes_at, FirstIs, Listed, unmet, met}

-- ---- words that are an entry's
pub exit-words : (w : ℕ) (op : Op) (e : Exit) {b : Bool} {x y : Words} → b ≡ takes_of w op x e → x ≡ y → b ≡ takes_of w op y e
exit-words w op e is same = is ∙ ap (λ (z : Words). takes_of w op z e) same

-- ---- the number listed for one exit; b says whether entry k takes it
keep : (b : Bool) (c d r : ℕ) → 0 < c → r ≡ cond (b && eqb c 0) d c → r ≡ c
keep b c d r l q = q ∙ by b
  where
    by : (b : Bool) → cond (b && eqb c 0) d c ≡ c
    by true = rw (ne_eqb c 0 (λ e. omega arith))
    by false = refl

kept-old : (b : Bool) (c d : ℕ) → (c ≡ 0 → ⊥) → c ≡ cond (b && eqb c 0) d c
kept-old b c d h = sym (keep b c d _ (omega arith) refl)

kept_free : (b : Bool) (c d : ℕ) → b ≡ false → c ≡ cond (b && eqb c 0) d c
kept_free b c d h = sym (ap (λ (t : Bool). cond (t && eqb c 0) d c) h)

-- ---- whether an exit is left to list; n is what the steps weigh
weighing : (n : ℕ) (t : Bool) → (n ≡ 0 → ⊥) → t ≡ (not (eqb n 0) && t)
weighing n t h = sym (ap (λ (b : Bool). not b && t) (ne_eqb n 0 h))

unlisted_p : (n p : ℕ) (t : Bool) → (n ≡ 0 → ⊥) → p ≡ 0 → true ≡ (not (eqb n 0) && (eqb p 0 || t))
unlisted_p n p t h e = ap (λ (b : Bool). b || t) (sym (eq-eqb p 0 e)) ∙ weighing n _ h

unlisted_m : (n p : ℕ) (t : Bool) → (n ≡ 0 → ⊥) → (p ≡ 0 → ⊥) → t ≡ (not (eqb n 0) && (eqb p 0 || t))
unlisted_m n p t h e = ap (λ (b : Bool). b || t) (sym (ne_eqb p 0 e)) ∙ weighing n _ h

-- none is left: both numbers stay
pub none_left : (w : ℕ) (op : Op) (x : Words) (p m d : ℕ) → (not (eqb (weight_of op) 0) && (eqb p 0 || eqb m 0)) ≡ false
    → (p ≡ cond (takes_of w op x p_exit && eqb p 0) d p) × (m ≡ cond (takes_of w op x m_exit && eqb m 0) d m)
none_left w op x p m d is = by (ℕ_discrete (weight_of op) 0) (ℕ_discrete p 0) (ℕ_discrete m 0)
  where
    by : Dec (weight_of op ≡ 0) → Dec (p ≡ 0) → Dec (m ≡ 0)
        → (p ≡ cond (takes_of w op x p_exit && eqb p 0) d p) × (m ≡ cond (takes_of w op x m_exit && eqb m 0) d m)
    by (yes free) q r = (
      kept_free (takes_of w op x p_exit) p d (free_takes w op x p_exit free),
      kept_free (takes_of w op x m_exit) m d (free_takes w op x m_exit free),
    )
    by (no h) (yes q) r = absurd (true≢false (unlisted_p (weight_of op) p (eqb m 0) h q ∙ is))
    by (no h) (no q) (yes r) = absurd (true≢false (sym (eq-eqb m 0 r) ∙ unlisted_m (weight_of op) p (eqb m 0) h q ∙ is))
    by (no h) (no q) (no r) = (kept-old (takes_of w op x p_exit) p d q, kept-old (takes_of w op x m_exit) m d r)

module _ (takes : ℕ → Bool) (dist : ℕ → ℕ) where
  pub listed_more : (k c d r : ℕ) (b : Bool) → takes k ≡ b → d ≡ dist k + 1 → r ≡ cond (b && eqb c 0) d c → Listed takes dist k c
      → Listed takes dist (k + 1) r
  listed_more k c d r b h e q (met j f z) =
      met j (record { below = omega (arith, f.below); takes_it = f.takes_it; before = f.before }) (keep b c d r (omega arith) q ∙ z)
  listed_more k c d r b h e q (unmet z none) = by b h q
    where
      by : (b : Bool) → takes k ≡ b → r ≡ cond (b && eqb c 0) d c → Listed takes dist (k + 1) r
      by true h q =
          met k (record { below = omega arith; takes_it = h; before = none }) (q ∙ ap (λ (t : Bool). cond t d c) (eq-eqb c 0 z) ∙ e)
      by false h q = unmet (q ∙ z) (none_more takes k none h)

module _ (w : ℕ) (places patterns : List ℕ) (op : Op) (e : Exit) (k : ℕ) where
  abbrev taken : Bool
  taken = takes_of w op (words (get_or places k 0) (get_or patterns k 0)) e

  pub takes-here : (i : ℕ) → at_of (get_or places k 0) ≡ i → takes_at w places patterns op i e k ≡ taken
  unfolding takes_at
  takes-here i h = ap (λ (t : Bool). t && taken) (eq-eqb (at_of (get_or places k 0)) i h)

  pub takes_elsewhere : (i : ℕ) → (at_of (get_or places k 0) ≡ i → ⊥) → takes_at w places patterns op i e k ≡ false
  unfolding takes_at
  takes_elsewhere i h = ap (λ (t : Bool). t && taken) (ne_eqb (at_of (get_or places k 0)) i h)

-- ---- the first entry, as a search over the range of the entries finds it
pub first_by : (takes : ℕ → Bool) (n : ℕ) (r : Option ℕ)
    → MatchOption r ((k : ℕ) → 0 ≤ k → k < n → takes k ≡ false) (λ i. (0 ≤ i) × (i < n) × (takes i ≡ true) × ((k : ℕ) → 0 ≤ k → k < i → takes k ≡ false))
    → FirstIs takes n r
unfolding FirstIs
first_by takes n (Some i) (a, l, t, f) = record { below = l; takes_it = t; before = λ j m e. true≢false (sym e ∙ f j (omega arith) m) }
first_by takes n None f = λ j m e. true≢false (sym e ∙ f j (omega arith) m)
