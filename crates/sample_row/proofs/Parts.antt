-- The parts that are written lie apart. So to map every part is to map every tape, and what lies before the first part or behind the
-- last stays as it is.
use mathlib.Core.Path.{◌≡◌, refl, sym, ap, ap₂, ◌∙◌, subst}
use mathlib.Core.List.{List, [], ◌∷◌, ◌++◌, map}
use Prim.Native.Nat.{ℕ, min, ◌+◌, ◌-◌, ◌≤◌}
use native.Mathlib.Omega.{arith}
use lib.IntN.{ℤ}
use lib.ListN.{length, take, drop, length-append, length-take, length-drop, length-map}
use lib.Seq.{take_at, drop_at, take-append-le, drop-drop, take-take, take-add}
use Rattle.sample_row.specs.Inner.Layout.{tapes_at, on_part, on_parts, Apart}
use Rattle.model.specs.Inner.Lists.{All}

-- ---- one part
module _ (f : ℤ → ℤ) (s k : ℕ) (l : List ℤ) (h : s + k ≤ length l) where
  front : length (take s l) ≡ s
  front = length-take s l ∙ omega arith

  middle : length (map f (take k (drop s l))) ≡ k
  middle = length-map (take k (drop s l)) f ∙ length-take k (drop s l) ∙ omega (arith, length-drop s l)

  pub part_length : length (on_part f s k l) ≡ length l
  part_length = length-append (take s l) (map f (take k (drop s l)) ++ drop k (drop s l))
      ∙ omega (arith, front, middle, length-append (map f (take k (drop s l))) (drop k (drop s l)), length-drop k (drop s l), length-drop s l)

  part-before : (n : ℕ) → n ≤ s → take n (on_part f s k l) ≡ take n l
  part-before n e =
      take-append-le n (take s l) (map f (take k (drop s l)) ++ drop k (drop s l)) (omega (arith, front)) ∙ take-take n s l e

  from_start : drop s (on_part f s k l) ≡ map f (take k (drop s l)) ++ drop k (drop s l)
  from_start = drop_at (take s l) (map f (take k (drop s l)) ++ drop k (drop s l)) s front

  part-here : take k (drop s (on_part f s k l)) ≡ map f (take k (drop s l))
  part-here = ap (take k) from_start ∙ take_at (map f (take k (drop s l))) (drop k (drop s l)) k middle

  part_behind : drop (s + k) (on_part f s k l) ≡ drop (s + k) l
  part_behind = sym (drop-drop k s (on_part f s k l)) ∙ ap (drop k) from_start
      ∙ drop_at (map f (take k (drop s l))) (drop k (drop s l)) k middle ∙ drop-drop k s l

-- ---- rows that agree from a cell on, or up to one
pub same_drop : (l l' : List ℤ) (from n : ℕ) → from ≤ n → drop from l ≡ drop from l' → drop n l ≡ drop n l'
same_drop l l' from n h e =
    let q : from + (n - from) ≡ n = omega arith in
    subst (λ (m : ℕ). drop m l ≡ drop m l') q (sym (drop-drop (n - from) from l) ∙ ap (drop (n - from)) e ∙ drop-drop (n - from) from l')

pub same-part : (l l' : List ℤ) (s k : ℕ) → s ≤ length l → s ≤ length l' → take (s + k) l ≡ take (s + k) l'
    → take k (drop s l) ≡ take k (drop s l')
same-part l l' s k h h' e = sym (piece l h) ∙ ap (drop s) e ∙ piece l' h'
  where
    piece : (m : List ℤ) → s ≤ length m → drop s (take (s + k) m) ≡ take k (drop s m)
    piece m b = ap (drop s) (take-add s k m) ∙ drop_at (take s m) (take k (drop s m)) s (length-take s m ∙ omega arith)

pub tapes-same : (from : ℕ) (ss ks : List ℕ) (n : ℕ) (l l' : List ℤ) → Apart from ss ks n → drop from l ≡ drop from l'
    → tapes_at ss ks l ≡ tapes_at ss ks l'
unfolding tapes_at
tapes-same from [] ks n l l' r e = refl
tapes-same from (s ∷ ss) [] n l l' r e = refl
tapes-same from (s ∷ ss) (k ∷ ks) n l l' r e =
    let h = r.0 in
    ap₂ ◌∷◌ (ap (take k) (same_drop l l' from s h e))
    (tapes-same (s + k) ss ks n l l' r.1 (same_drop l l' from (s + k) (omega arith) e))

-- ---- all parts
pub apart-less : (from from' : ℕ) (ss ks : List ℕ) (n : ℕ) → from' ≤ from → Apart from ss ks n → Apart from' ss ks n
apart-less from from' [] ks n h r = omega arith
apart-less from from' (s ∷ ss) [] n h r = omega arith
apart-less from from' (s ∷ ss) (k ∷ ks) n h r = (omega (arith, r.0), r.1)

apart_fits : (from : ℕ) (ss ks : List ℕ) (n : ℕ) → Apart from ss ks n → from ≤ n
apart_fits from [] ks n r = r
apart_fits from (s ∷ ss) [] n r = r
apart_fits from (s ∷ ss) (k ∷ ks) n r = omega (arith, apart_fits (s + k) ss ks n r.1, r.0)

module _ (f : ℤ → ℤ) where
  -- the rest of the parts, once the first is mapped
  module _ (from s k : ℕ) (ss ks : List ℕ) (l : List ℤ) (r : Apart from (s ∷ ss) (k ∷ ks) (length l)) where
    fits : s + k ≤ length l
    fits = apart_fits (s + k) ss ks (length l) r.1

    apart_rest : Apart (s + k) ss ks (length (on_part f s k l))
    apart_rest = subst (Apart (s + k) ss ks) (sym (part_length f s k l fits)) r.1

    tapes_rest : tapes_at ss ks (on_part f s k l) ≡ tapes_at ss ks l
    tapes_rest = sym (tapes-same (s + k) ss ks (length l) l (on_part f s k l) r.1 (sym (part_behind f s k l fits)))

  pub parts-length : (from : ℕ) (ss ks : List ℕ) (l : List ℤ) → Apart from ss ks (length l) → length (on_parts f ss ks l) ≡ length l
  unfolding on_parts
  parts-length from [] ks l r = refl
  parts-length from (s ∷ ss) [] l r = refl
  parts-length from (s ∷ ss) (k ∷ ks) l r =
      parts-length (s + k) ss ks (on_part f s k l) (apart_rest from s k ss ks l r) ∙ part_length f s k l (fits from s k ss ks l r)

  parts-before : (from : ℕ) (ss ks : List ℕ) (l : List ℤ) → Apart from ss ks (length l) → take from (on_parts f ss ks l) ≡ take from l
  unfolding on_parts
  parts-before from [] ks l r = refl
  parts-before from (s ∷ ss) [] l r = refl
  parts-before from (s ∷ ss) (k ∷ ks) l r =
      let b : from ≤ s + k = omega (arith, r.0) in
      sym (take-take from (s + k) (on_parts f ss ks (on_part f s k l)) b)
      ∙ ap (take from) (parts-before (s + k) ss ks (on_part f s k l) (apart_rest from s k ss ks l r))
      ∙ take-take from (s + k) (on_part f s k l) b ∙ part-before f s k l (fits from s k ss ks l r) from r.0

  -- to map every part is to map every tape
  pub parts-tapes : (from : ℕ) (ss ks : List ℕ) (l : List ℤ) → Apart from ss ks (length l)
      → tapes_at ss ks (on_parts f ss ks l) ≡ map (map f) (tapes_at ss ks l)
  unfolding tapes_at on_parts
  parts-tapes from [] ks l r = refl
  parts-tapes from (s ∷ ss) [] l r = refl
  parts-tapes from (s ∷ ss) (k ∷ ks) l r =
      let h = fits from s k ss ks l r in
      let l' = on_part f s k l in
      let r' = apart_rest from s k ss ks l r in
      let n = parts-length (s + k) ss ks l' r' in
      let m = part_length f s k l h in
      ap₂ ◌∷◌ (same-part (on_parts f ss ks l') l' s k (omega arith) (omega arith) (parts-before (s + k) ss ks l' r') ∙ part-here f s k l h)
      (parts-tapes (s + k) ss ks l' r' ∙ ap (map (map f)) (tapes_rest from s k ss ks l r))

  pub parts_behind : (from end : ℕ) (ss ks : List ℕ) (l : List ℤ) → Apart from ss ks end → end ≤ length l
      → drop end (on_parts f ss ks l) ≡ drop end l
  unfolding on_parts
  parts_behind from end [] ks l r n = refl
  parts_behind from end (s ∷ ss) [] l r n = refl
  parts_behind from end (s ∷ ss) (k ∷ ks) l r n =
      let b = apart_fits (s + k) ss ks end r.1 in
      let h : s + k ≤ length l = omega arith in
      parts_behind (s + k) end ss ks (on_part f s k l) r.1 (omega (arith, part_length f s k l h))
      ∙ same_drop (on_part f s k l) l (s + k) end b (part_behind f s k l h)

  -- ---- the loop over the parts
  module _ (P : List ℤ → Type 0) (s k : ℕ) (ss ks : List ℕ) (l : List ℤ) (r : Apart 0 (s ∷ ss) (k ∷ ks) (length l)) where
    pub part_fits : s + k ≤ length l
    part_fits = fits 0 s k ss ks l r

    pub apart_next : Apart 0 ss ks (length (on_part f s k l))
    apart_next = apart-less (s + k) 0 ss ks (length (on_part f s k l)) (omega arith) (apart_rest 0 s k ss ks l r)

    pub all-next : All P (tapes_at ss ks l) → All P (tapes_at ss ks (on_part f s k l))
    all-next g = rw (tapes_rest 0 s k ss ks l r) g

  pub parts_short : (ss ks : List ℕ) (l : List ℤ) → min (length ss) (length ks) ≡ 0 → on_parts f ss ks l ≡ l
  unfolding on_parts
  parts_short [] ks l h = refl
  parts_short (s ∷ ss) [] l h = refl
  parts_short (s ∷ ss) (k ∷ ks) l h = absurd (omega arith)
