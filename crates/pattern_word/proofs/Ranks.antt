-- Codes of four values: how many different values lie between two numbers, and what a code is. The functions from `counted` to `values`
-- answer by these laws.
use mathlib.Core.Path.{◌≡◌, refl, sym, ap, ap₂, ◌∙◌}
use mathlib.Core.Bool.{Bool, true, false, not, cond, ◌&&◌, ◌||◌}
use mathlib.Core.List.{List, [], ◌∷◌, map}
use Prim.Native.Nat.{ℕ, zero, suc, ◌+◌, ◌*◌, ◌-◌, ◌<◌, ◌≤◌}
use native.Mathlib.Omega.{arith}
use lib.ListN.{length, get_or, take, drop, length-map, length-drop, drop_of_length-le}
use Rattle.std.specs.List.{list_any}
use Rattle.std.proofs.lemmas.List.{take_all, at_drop_more}
use Rattle.model.proofs.Integers.{same_test}
use mir.Facts.{eqb_yes, yes_eqb}
use lib.Dec.{ltb, eqb}
use borrow.Author.Tests.{ltb-false, lt-ltb, le-ltb, le-leb, lt-leb}
use Rattle.pattern_word.specs.Inner.Pattern.{low, high, within, member, different_within, lane_code, codes_of, value_of, values_of}
use Rattle.pattern_word.specs.Inner.Digits.{Below}

-- ---- counted: the four ways through it
pub counted-under : (n p q x : ℕ) (b : Bool) → x < p → n ≡ cond (within p q x && not b) (suc n) n
counted-under n p q x b h = rw (lt-leb p x h)

pub counted-over : (n p q x : ℕ) (b : Bool) → p ≤ x → q < x → n ≡ cond (within p q x && not b) (suc n) n
counted-over n p q x b h k = rw (le-leb p x h, lt-leb x q k)

pub counted-again : (n p q x : ℕ) (b : Bool) → p ≤ x → x ≤ q → b ≡ true → n ≡ cond (within p q x && not b) (suc n) n
counted-again n p q x b h k e = rw (le-leb p x h, le-leb x q k, e)

pub counted-new : (n p q x : ℕ) (b : Bool) → p ≤ x → x ≤ q → b ≡ false → n + 1 ≡ cond (within p q x && not b) (suc n) n
counted-new n p q x b h k e = rw (le-leb p x h, le-leb x q k, e) (omega arith)

-- ---- count: a turn, at the value in place j, the next being i
pub member_any : (x : ℕ) (l : List ℕ) → list_any (λ y. eqb y x) l ≡ member x l
unfolding member
member_any x [] = refl
member_any x (y ∷ l) = ap₂ ◌||◌ (eqb_sym y x) (member_any x l)
  where
    eqb_sym : (a b : ℕ) → eqb a b ≡ eqb b a
    eqb_sym a b = same_test (eqb a b) (eqb b a) (λ t. yes_eqb (sym (eqb_yes t))) (λ t. yes_eqb (sym (eqb_yes t)))

module _ (p q : ℕ) (l : List ℕ) (i j n : ℕ) (next : j + 1 ≡ i) (h : j < length l) (is : n ≡ different_within p q (drop i l)) where
  turn : different_within p q (drop j l) ≡ cond (within p q (get_or l j 0) && not (member (get_or l j 0) (drop i l))) (suc n) n
  unfolding different_within
  turn =
      at_drop_more (different_within p q) l j 0 h ∙ ap (λ (k : ℕ). different_within p q (get_or l j 0 ∷ drop k l)) next
      ∙ ap (λ (m : ℕ). cond (within p q (get_or l j 0) && not (member (get_or l j 0) (drop i l))) (suc m) m) (sym is)

  pub count-under : get_or l j 0 < p → n ≡ different_within p q (drop j l)
  count-under k = counted-under n p q (get_or l j 0) (member (get_or l j 0) (drop i l)) k ∙ sym turn

  pub count-over : p ≤ get_or l j 0 → q < get_or l j 0 → n ≡ different_within p q (drop j l)
  count-over k m = counted-over n p q (get_or l j 0) (member (get_or l j 0) (drop i l)) k m ∙ sym turn

  -- what is looked through is the rest of the values: t of them from place k on
  module _ (four : length l ≡ 4) (b : Bool) (k t : ℕ) (looked : b ≡ list_any (λ y. eqb y (get_or l j 0)) (take t (drop k l))) (from : k ≡ i) (to : 4 ≤ k + t) where
    again : b ≡ member (get_or l j 0) (drop i l)
    again =
        looked ∙ ap (list_any (λ y. eqb y (get_or l j 0))) (rest ∙ ap (λ (m : ℕ). drop m l) from) ∙ member_any (get_or l j 0) (drop i l)
      where
        rest : take t (drop k l) ≡ drop k l
        rest = take_all t (drop k l) (omega (arith, length-drop k l, four, to))

    pub count-again : p ≤ get_or l j 0 → get_or l j 0 ≤ q → b ≡ true → n ≡ different_within p q (drop j l)
    count-again g m e = counted-again n p q (get_or l j 0) (member (get_or l j 0) (drop i l)) g m (sym again ∙ e) ∙ sym turn

    pub count-new : p ≤ get_or l j 0 → get_or l j 0 ≤ q → b ≡ false → n + 1 ≡ different_within p q (drop j l)
    count-new g m e = counted-new n p q (get_or l j 0) (member (get_or l j 0) (drop i l)) g m (sym again ∙ e) ∙ sym turn

pub count-end : (p q : ℕ) (l : List ℕ) (i : ℕ) → length l ≤ i → 0 ≡ different_within p q (drop i l)
unfolding different_within
count-end p q l i h = ap (different_within p q) (sym (drop_of_length-le l {i = i} h))

pub among-length : (p q : ℕ) (v : List ℕ) → different_within p q v ≤ length v
unfolding different_within
among-length p q [] = omega arith
among-length p q (x ∷ v) = go (within p q x && not (member x v)) (among-length p q v)
  where
    go : (b : Bool) → different_within p q v ≤ length v → cond b (suc (different_within p q v)) (different_within p q v) ≤ suc (length v)
    go true h = omega arith
    go false h = omega arith

-- ---- code: above, below, inside
pub code_above : (w x n : ℕ) (v : List ℕ) → 15 + w < x → n ≡ different_within (15 + w + 1) x v → w + n - 1 ≡ lane_code w v x
unfolding lane_code
code_above w x n v h e = let s : 15 + w + 1 ≡ suc (15 + w) = omega arith in rw (lt-ltb (15 + w) x h, e, s)

pub code_under : (w x n : ℕ) (v : List ℕ) → x ≤ 15 + w → x < 16 → n ≡ different_within x 15 v → w + 3 + n ≡ lane_code w v x
unfolding lane_code
code_under w x n v h k e = rw (le-ltb (15 + w) x h, lt-ltb x 16 k, e)

pub code_inside : (w x : ℕ) (v : List ℕ) → x ≤ 15 + w → 16 ≤ x → x - 16 ≡ lane_code w v x
unfolding lane_code
code_inside w x v h k = rw (le-ltb (15 + w) x h, le-ltb x 16 k)

-- whatever the values, a code is below w + 8
pub code_below : (w : ℕ) (v : List ℕ) (x : ℕ) → length v ≤ 4 → lane_code w v x < w + 8
unfolding lane_code
code_below w v x few = go (ltb (high w) x) (ltb x low) refl refl
  where
    go : (a b : Bool) → ltb (high w) x ≡ a → ltb x low ≡ b
        → cond a (w + different_within (suc (high w)) x v - 1) (cond b (w + 3 + different_within x (low - 1) v) (x - low)) < w + 8
    go true b h k = omega (arith, among-length (suc (high w)) x v)
    go false true h k = omega (arith, among-length x (low - 1) v)
    go false false h k = omega (arith, ltb-false (high w) x h)

pub codes_below : (w : ℕ) (v : List ℕ) → length v ≤ 4 → Below (w + 8) (codes_of w v)
unfolding codes_of
codes_below w v few = all v
  where
    all : (l : List ℕ) → Below (w + 8) (map (lane_code w v) l)
    all [] i = omega arith
    all (x ∷ l) zero = code_below w v x few
    all (x ∷ l) (suc i) = all l i

pub length_codes : (w : ℕ) (v : List ℕ) → length (codes_of w v) ≡ length v
unfolding codes_of
length_codes w v = length-map v (lane_code w v)

-- ---- value
pub value-inside : (w c : ℕ) → c < w → 16 + c ≡ value_of w c
unfolding value_of
value-inside w c h = rw (lt-ltb c w h)

pub value-above : (w c : ℕ) → w ≤ c → c < w + 4 → 15 + w + 2 * (c + 1 - w) ≡ value_of w c
unfolding value_of
value-above w c h k = rw (le-ltb c w h, lt-ltb c (w + 4) k)

pub value-below : (w c : ℕ) → w + 4 ≤ c → 16 - 2 * (c + 1 - (w + 4)) ≡ value_of w c
unfolding value_of
value-below w c h = rw (le-ltb c w (omega arith), le-ltb c (w + 4) h)

pub length-values : (w : ℕ) (v : List ℕ) → length (values_of w v) ≡ length v
unfolding values_of
length-values w v = length-map v (value_of w)
