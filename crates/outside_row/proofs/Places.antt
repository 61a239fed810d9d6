-- Places in a list: an element stands at its first place, and in a list that holds nothing twice at no other.
use mathlib.Core.Path.{◌≡◌, refl, sym, ap, ap₂, subst}
use mathlib.Core.Bool.{Bool, true, false, cond}
use mathlib.Core.List.{List, [], ◌∷◌}
use mathlib.Core.Logic.{inl, inr}
use Prim.Native.Nat.{ℕ, zero, suc, ◌<◌}
use native.Mathlib.Omega.{arith}
use lib.ListN.{length, get_or}
use lib.Dec.{T, eqb, eqb→eq, eqb_refl}
use Rattle.graph.specs.Lists.{In, Once}
use Rattle.model.proofs.Integers.{true_in, and_in, and_out}
use Rattle.outside_row.specs.Inner.Table.{alike, place_in}

alike_in : (l m : List ℕ) → T (alike l m) → l ≡ m
unfolding alike
alike_in [] [] h = refl
alike_in [] (y ∷ m) h = absurd h
alike_in (x ∷ l) [] h = absurd h
alike_in (x ∷ l) (y ∷ m) h = let (p, q) = and_in (eqb x y) (alike l m) h in ap₂ ◌∷◌ (eqb→eq x y p) (alike_in l m q)

alike_self : (l : List ℕ) → T (alike l l)
unfolding alike
alike_self [] = tt
alike_self (x ∷ l) = and_out (eqb x x) (alike l l) (eqb_refl x) (alike_self l)

-- where the test fails, the element is another
alike_not : (s r : List ℕ) → alike s r ≡ false → r ≡ s → ⊥
alike_not s r e q = subst T e (subst (λ (x : List ℕ). T (alike x r)) q (alike_self r))

pub place_holds : (t : List (List ℕ)) (r : List ℕ) → In r t → get_or t (place_in t r) [] ≡ r
unfolding place_in
place_holds [] r h = elim h [ ]
place_holds (s ∷ t) r h = go (alike s r) refl h (place_holds t r)
  where
    go : (b : Bool) → alike s r ≡ b → In r (s ∷ t) → (In r t → get_or t (place_in t r) [] ≡ r) → get_or (s ∷ t) (cond b 0 (suc (place_in t r))) [] ≡ r
    go true e k rest = alike_in s r (true_in (alike s r) e)
    go false e (inl q) rest = absurd (alike_not s r e q)
    go false e (inr k) rest = rest k

pub place-below : (t : List (List ℕ)) (r : List ℕ) → In r t → place_in t r < length t
unfolding place_in
place-below [] r h = elim h [ ]
place-below (s ∷ t) r h = go (alike s r) refl h (place-below t r)
  where
    go : (b : Bool) → alike s r ≡ b → In r (s ∷ t) → (In r t → place_in t r < length t) → cond b 0 (suc (place_in t r)) < suc (length t)
    go true e k rest = omega arith
    go false e (inl q) rest = absurd (alike_not s r e q)
    go false e (inr k) rest = omega (arith, rest k)

module _ {A : Type 0} (d : A) where
  pub in_get_d : (l : List A) (i : ℕ) → i < length l → In (get_or l i d) l
  in_get_d [] i h = absurd (omega arith)
  in_get_d (x ∷ l) zero h = inl refl
  in_get_d (x ∷ l) (suc i) h = inr (in_get_d l i (omega arith))

  pub once-place : (l : List A) (i j : ℕ) → Once l → i < length l → j < length l → get_or l i d ≡ get_or l j d → i ≡ j
  once-place [] i j o h k e = absurd (omega arith)
  once-place (x ∷ l) zero zero o h k e = refl
  once-place (x ∷ l) zero (suc j) o h k e = absurd (o.0 (subst (λ (y : A). In y l) (sym e) (in_get_d l j (omega arith))))
  once-place (x ∷ l) (suc i) zero o h k e = absurd (o.0 (subst (λ (y : A). In y l) e (in_get_d l i (omega arith))))
  once-place (x ∷ l) (suc i) (suc j) o h k e = ap suc (once-place l i j o.1 (omega arith) (omega arith) e)
