-- Lines and fields at a place of a text. A text splits at its first byte c into the part before it and the parts behind it,
-- and where no c is left, all of it is the last part. Lines and fields are these laws for bytes 10 and 44, at a place i
-- and in the words of `end_of`: e is where the first c stands from i on, and `take (e - i) (drop i s)` is the part between.
use mathlib.Core.Path.{◌≡◌, refl, sym, ap, ◌∙◌}
use Rattle.std.proofs.Common.{one-add, All, ◌≢◌}
use Rattle.std.proofs.lemmas.List.Elements.{All-head, All-tail}
use mathlib.Core.Bool.{Bool, true, false, cond}
use mathlib.Core.List.{List, [], ◌∷◌}
use Prim.Native.Nat.{ℕ, zero, suc, ◌+◌, ◌-◌, ◌≤◌, ◌<◌}
use native.Mathlib.Decide.{dec_le}
use native.Mathlib.Omega.{arith}
use borrow.Author.Tests.{eq-eqb, ne_eqb}
use lib.Dec.{eqb}
use lib.ListN.{length, get_or, take, drop, length-drop, drop_of_length-le}
use lib.Seq.{drop-drop, take_all}
use Rattle.std.proofs.lemmas.List.Recursion.{is_position_or_len}
use Rattle.std.proofs.lemmas.List.Sums.{position_or_len_is}
use Rattle.text.specs.Split.{lead, parts, lines, split}
use Rattle.text.specs.Inner.Divided.{until}

-- ---- the bytes before the first c
pub until_is : (c : ℕ) (s : List ℕ) (i : ℕ) → i ≤ length s →
    ((k : ℕ) → k < i → eqb (get_or s k 0) c ≡ false) → (i < length s → eqb (get_or s i 0) c ≡ true) → until c s ≡ i
unfolding until
until_is c s i inside before here =
    is_position_or_len (until c) (λ b. eqb b c) refl (λ x xs. ap (cond (eqb x c) 0) (sym (one-add (until c xs)))) s ∙ position_or_len_is (λ b. eqb b c) s i 0 inside before here

abbrev pub IsNot : ℕ → ℕ → Type 0
IsNot c b = b ≢ c

pub until_none : (c : ℕ) (s : List ℕ) → All (IsNot c) s → until c s ≡ length s
unfolding until
until_none c [] none = refl
until_none c (x ∷ xs) none = rw (ne_eqb x c (All-head (IsNot c) x xs none), until_none c xs (All-tail (IsNot c) x xs none))

-- the first n bytes are none; the next is none either, or it is the first one
pub until-on : (c : ℕ) (s : List ℕ) (n : ℕ) → n ≤ until c s → n < length s → (get_or s n 0 ≡ c → ⊥) → suc n ≤ until c s
unfolding until
until-on c [] n h l e = absurd (omega arith)
until-on c (x ∷ xs) zero h l e = rw (ne_eqb x c e) (omega arith)
until-on c (x ∷ xs) (suc n) h l e = by (eqb x c) h (until-on c xs n)
  where
    by : (t : Bool) → suc n ≤ cond t 0 (suc (until c xs)) →
        (n ≤ until c xs → n < length xs → (get_or xs n 0 ≡ c → ⊥) → suc n ≤ until c xs) → suc (suc n) ≤ cond t 0 (suc (until c xs))
    by true h more = absurd (omega arith)
    by false h more = omega (arith, more (omega arith) (omega arith) e)

pub until_here : (c : ℕ) (s : List ℕ) (n : ℕ) → n ≤ until c s → n < length s → get_or s n 0 ≡ c → until c s ≡ n
unfolding until
until_here c [] n h l e = absurd (omega arith)
until_here c (x ∷ xs) zero h l e = rw (eq-eqb x c e)
until_here c (x ∷ xs) (suc n) h l e = by (eqb x c) h (until_here c xs n)
  where
    by : (t : Bool) → suc n ≤ cond t 0 (suc (until c xs)) →
        (n ≤ until c xs → n < length xs → get_or xs n 0 ≡ c → until c xs ≡ n) → cond t 0 (suc (until c xs)) ≡ suc n
    by true h here = absurd (omega arith)
    by false h here = ap suc (here (omega arith) (omega arith) e)

pub until_most : (c : ℕ) (s : List ℕ) → until c s ≤ length s
unfolding until
until_most c [] = omega arith
until_most c (x ∷ xs) = by (eqb x c) (until_most c xs)
  where
    by : (t : Bool) → until c xs ≤ length xs → cond t 0 (suc (until c xs)) ≤ suc (length xs)
    by true h = omega arith
    by false h = omega arith

pub until_end : (c : ℕ) (s : List ℕ) (i : ℕ) → length s ≤ i → until c (drop i s) ≡ 0
unfolding until
until_end c s i h = rw (drop_of_length-le s h)

-- ---- the first part, and the parts behind it
module _ (c : ℕ) (end : List (List ℕ)) where
  -- the first u bytes, and the parts behind the byte that follows them
  abbrev front : ℕ → List ℕ → List (List ℕ)
  front u s = take u s ∷ parts c end (drop (suc u) s)

  parts_first : (s : List ℕ) → until c s < length s → parts c end s ≡ front (until c s) s
  unfolding parts until lead
  parts_first [] h = absurd (omega arith)
  parts_first (x ∷ xs) h = by (eqb x c) h (parts_first xs)
    where
      by : (b : Bool) →
          cond b 0 (suc (until c xs)) < suc (length xs) →
          (until c xs < length xs → parts c end xs ≡ front (until c xs) xs) →
          cond b ([] ∷ parts c end xs) (lead x (parts c end xs)) ≡ front (cond b 0 (suc (until c xs))) (x ∷ xs)
      by true h first = refl
      by false h first = ap (lead x) (first (omega arith))

  -- `opens`: a byte in front of the end makes one part, as it does for lines, whose end has no part, and for fields
  module _ (opens : (x : ℕ) → lead x end ≡ (x ∷ []) ∷ []) where
    parts_last : (s : List ℕ) → 0 < length s → length s ≤ until c s → parts c end s ≡ s ∷ []
    unfolding parts until lead
    parts_last [] l h = absurd (omega arith)
    parts_last (x ∷ xs) l h = by (eqb x c) h (alone xs (parts_last xs))
      where
        alone : (ys : List ℕ) →
            (0 < length ys → length ys ≤ until c ys → parts c end ys ≡ ys ∷ []) →
            length ys ≤ until c ys → lead x (parts c end ys) ≡ (x ∷ ys) ∷ []
        alone [] last h = opens x
        alone (y ∷ ys) last h = ap (lead x) (last (omega arith) h)

        by : (b : Bool) →
            suc (length xs) ≤ cond b 0 (suc (until c xs)) →
            (length xs ≤ until c xs → lead x (parts c end xs) ≡ (x ∷ xs) ∷ []) →
            cond b ([] ∷ parts c end xs) (lead x (parts c end xs)) ≡ (x ∷ xs) ∷ []
        by true h last = absurd (omega arith)
        by false h last = last (omega arith)

-- ---- at a place i of the text s, of which e is the next byte c or the end
module _ (c : ℕ) (end : List (List ℕ)) (s : List ℕ) (i e : ℕ) (found : e ≡ i + until c (drop i s)) where
  parts_at : e < length s → parts c end (drop i s) ≡ take (e - i) (drop i s) ∷ parts c end (drop (e + 1) s)
  parts_at h =
      let n : until c (drop i s) ≡ e - i = omega arith in
      let m : i + suc (e - i) ≡ e + 1 = omega arith in
      let first = parts_first c end (drop i s) (simp length-drop (omega arith)) in
      rw (n, drop-drop (suc (e - i)) i s, m) at first

  -- from i on there is no further c
  module _ (h : length s ≤ e) where
    rest_is : take (e - i) (drop i s) ≡ drop i s
    rest_is = take_all (e - i) (drop i s) (simp length-drop (omega arith))

    parts-at-last : ((x : ℕ) → lead x end ≡ (x ∷ []) ∷ []) → i < length s → parts c end (drop i s) ≡ take (e - i) (drop i s) ∷ []
    parts-at-last opens l = rw rest_is (parts_last c end opens (drop i s) (simp length-drop (omega arith)) (simp length-drop (omega arith)))

-- ---- lines
module _ (s : List ℕ) (i : ℕ) where
  pub lines-at-end : length s ≤ i → lines (drop i s) ≡ []
  unfolding lines parts
  lines-at-end h = rw (drop_of_length-le s h)

  pub lines_at : (e : ℕ) → e ≡ i + until 10 (drop i s) → i < length s →
      lines (drop i s) ≡ take (e - i) (drop i s) ∷ lines (drop (e + 1) s)
  unfolding lines parts lead
  lines_at e found l = by (dec_le (length s) e)
    where
      by : Dec (length s ≤ e) → parts 10 [] (drop i s) ≡ take (e - i) (drop i s) ∷ parts 10 [] (drop (e + 1) s)
      by (yes h) =
          let past : length s ≤ e + 1 = omega arith in
          rw (drop_of_length-le s past) (parts-at-last 10 [] s i e found h (λ x. refl) l)
      by (no h) = parts_at 10 [] s i e found (omega arith)

-- ---- fields
module _ (s : List ℕ) (i e : ℕ) (found : e ≡ i + until 44 (drop i s)) where
  -- another field follows
  pub fields_at : e < length s → split (drop i s) ≡ take (e - i) (drop i s) ∷ split (drop (e + 1) s)
  unfolding split
  fields_at h = parts_at 44 ([] ∷ []) s i e found h

  -- the last field
  pub fields-at-last : i ≤ length s → length s ≤ e → split (drop i s) ≡ take (e - i) (drop i s) ∷ []
  unfolding split parts lead
  fields-at-last l h = by (dec_le (length s) i)
    where
      by : Dec (length s ≤ i) → parts 44 ([] ∷ []) (drop i s) ≡ take (e - i) (drop i s) ∷ []
      by (yes q) = rw (rest_is 44 ([] ∷ []) s i e found h, drop_of_length-le s q)
      by (no q) = parts-at-last 44 ([] ∷ []) s i e found h (λ x. refl) (omega arith)

  pub field-here : i ≤ length s → get_or (split (drop i s)) 0 [] ≡ take (e - i) (drop i s)
  field-here l = by (dec_le (length s) e)
    where
      by : Dec (length s ≤ e) → get_or (split (drop i s)) 0 [] ≡ take (e - i) (drop i s)
      by (yes h) = rw (fields-at-last l h)
      by (no h) = rw (fields_at (omega arith))
