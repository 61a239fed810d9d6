-- A list whose first i numbers are mapped: the invariant of the loop that shifts a part, said by take and drop.
use mathlib.Core.Path.{◌≡◌, refl, sym, ap, ◌∙◌}
use mathlib.Core.List.{List, [], ◌∷◌, ◌++◌, map, map-append, append-nil}
use Prim.Native.Nat.{ℕ, suc, ◌+◌, ◌≤◌, ◌<◌}
use native.Mathlib.Omega.{arith}
use native.Mathlib.Numerals.{add-one}
use lib.IntN.{ℤ, pos}
use lib.ListN.{length, get_or, take, drop, set, length-take, length-map, drop_of_length-le}
use lib.Seq.{drop-cons, take-suc, set_at, get_or_at, take_all, append_snoc}

unfoldable pub Mapped : (ℤ → ℤ) → List ℤ → ℕ → List ℤ → Type 0
Mapped f l i m = m ≡ map f (take i l) ++ drop i l

module _ (f : ℤ → ℤ) (l : List ℤ) where
  pub mapped_none : Mapped f l 0 l
  unfolding Mapped
  mapped_none = refl

  front : (i : ℕ) → i ≤ length l → length (map f (take i l)) ≡ i
  front i h = length-map (take i l) f ∙ length-take i l ∙ omega arith

  module _ (m : List ℤ) (i : ℕ) (d : Mapped f l i m) (h : i < length l) where
    pub mapped_here : get_or m i (pos 0) ≡ get_or l i (pos 0)
    unfolding Mapped
    mapped_here = ap (λ (x : List ℤ). get_or x i (pos 0)) d
        ∙ rw (drop-cons l i (pos 0) h) (get_or_at (map f (take i l)) (get_or l i (pos 0)) (drop (suc i) l) (pos 0) i (front i (omega arith)))

    pub mapped_more : (z : ℤ) → z ≡ f (get_or l i (pos 0)) → Mapped f l (i + 1) (set m i z)
    unfolding Mapped
    mapped_more z e =
        let t : take (i + 1) l ≡ take i l ++ (get_or l i (pos 0) ∷ []) = rw add-one (take-suc l i (pos 0) h) in
        let n : drop (i + 1) l ≡ drop (suc i) l = rw add-one refl in
        let p : set (map f (take i l) ++ drop i l) i z ≡ map f (take i l) ++ z ∷ drop (suc i) l
        = rw (drop-cons l i (pos 0) h) (set_at (map f (take i l)) (get_or l i (pos 0)) (drop (suc i) l) z i (front i (omega arith))) in
        ap (λ (x : List ℤ). set x i z) d ∙ p
        ∙ rw (e, t, n, map-append) (sym (append_snoc (map f (take i l)) (f (get_or l i (pos 0))) (drop (suc i) l)))

  pub mapped_all : (m : List ℤ) (i : ℕ) → Mapped f l i m → length l ≤ i → m ≡ map f l
  unfolding Mapped
  mapped_all m i d h = d ∙ rw (take_all i l h, drop_of_length-le l h, append-nil)
