-- The records that a fan is tried with. If v's value lies below C1 and below all others it makes no difference which it is: v's rank counts all
-- values below C1, and no other rank counts v's. So all records from `first_trial` down give one word, and all from `last_trial` up give one.
use mathlib.Core.Path.{◌≡◌, refl, sym, ap, ap₂, ◌∙◌}
use mathlib.Core.Bool.{Bool, true, false, cond}
use mathlib.Core.List.{List, [], ◌∷◌}
use Prim.Native.Nat.{ℕ, zero, suc, ◌+◌, ◌*◌, ◌-◌, ◌<◌, ◌≤◌, min, max}
use native.Mathlib.Omega.{arith}
use lib.ListN.{length, get_or, set, drop, drop_of_length-le}
use Rattle.std.proofs.lemmas.List.{at_drop_more}
use lib.Dec.{ltb}
use borrow.Author.Tests.{ltb-true, ltb-false, le-leb, ne_eqb}
use Rattle.model.specs.Inner.Lists.{All}
use Rattle.model.proofs.Lists.{set-map, all_weaker}
use Rattle.pattern_word.specs.Inner.Digits.{undigits, Below}
use Rattle.pattern_word.specs.Inner.Pattern.{lane, lanes, low, high, within, member, different_within, lane_code, codes_of, value_of, values_of}
use Rattle.pattern_word.specs.Inner.Pattern.{store_of, word_of, assign_of, least_of, greatest_of, first_trial, last_trial}
use Rattle.pattern_word.specs.Inner.Span.{Trial}
use Rattle.pattern_word.proofs.Ranks.{code_above, code_under}
use Rattle.pattern_word.proofs.Recalled.{lanes-below}
use Rattle.pattern_word.proofs.Fans.{map-all, member-set, within-under, within-over, Uncounted, code_set}

-- ---- the least and the greatest: a turn, at the value in place i, and the end
least-min : (n x : ℕ) (l : List ℕ) → least_of (min n x) l ≡ min x (least_of n l)
unfolding least_of
least-min n x [] = omega arith
least-min n x (y ∷ l) = omega (arith, least-min n x l)

greatest-max : (n x : ℕ) (l : List ℕ) → greatest_of (max n x) l ≡ max x (greatest_of n l)
unfolding greatest_of
greatest-max n x [] = omega arith
greatest-max n x (y ∷ l) = omega (arith, greatest-max n x l)

module _ (n : ℕ) (l : List ℕ) (i : ℕ) where
  pub least-turn : i < length l → least_of (min n (get_or l i 0)) (drop (i + 1) l) ≡ least_of n (drop i l)
  unfolding least_of
  least-turn h = least-min n (get_or l i 0) (drop (i + 1) l) ∙ sym (at_drop_more (least_of n) l i 0 h)

  pub greatest-turn : i < length l → greatest_of (max n (get_or l i 0)) (drop (i + 1) l) ≡ greatest_of n (drop i l)
  unfolding greatest_of
  greatest-turn h = greatest-max n (get_or l i 0) (drop (i + 1) l) ∙ sym (at_drop_more (greatest_of n) l i 0 h)

  pub least-end : length l ≤ i → n ≡ least_of n (drop i l)
  unfolding least_of
  least-end h = ap (least_of n) (sym (drop_of_length-le l {i = i} h))

  pub greatest-end : length l ≤ i → n ≡ greatest_of n (drop i l)
  unfolding greatest_of
  greatest-end h = ap (greatest_of n) (sym (drop_of_length-le l {i = i} h))

least-all : (m n : ℕ) (s : List ℕ) → m ≤ least_of n s → (m ≤ n) × All (λ x. m ≤ x) s
unfolding least_of
least-all m n [] h = (h, tt)
least-all m n (x ∷ s) h = let (a, b) = least-all m n s (omega (arith, h)) in (a, (omega (arith, h), b))

greatest-all : (m n : ℕ) (s : List ℕ) → greatest_of n s ≤ m → (n ≤ m) × All (λ x. x ≤ m) s
unfolding greatest_of
greatest-all m n [] h = (h, tt)
greatest-all m n (x ∷ s) h = let (a, b) = greatest-all m n s (omega (arith, h)) in (a, (omega (arith, h), b))

-- ---- the values of codes
module _ (w : ℕ) where
  abbrev InTrials : ℕ → Type 0
  InTrials x = (8 ≤ x) × (x ≤ w + 23)

  value-near : (c : ℕ) → c < w + 8 → InTrials (value_of w c)
  unfolding value_of
  value-near c k = go (ltb c w) (ltb c (w + 4)) refl refl
    where
      go : (a b : Bool) → ltb c w ≡ a → ltb c (w + 4) ≡ b
          → InTrials (cond a (low + c) (cond b (high w + 2 * (c + 1 - w)) (low - 2 * (c + 1 - (w + 4)))))
      go true b e f = let h = ltb-true c w e in (omega arith, omega arith)
      go false true e f = let h = ltb-false c w e in let g = ltb-true c (w + 4) f in (omega arith, omega arith)
      go false false e f = let h = ltb-false c (w + 4) f in (omega arith, omega arith)

  least-near : (n : ℕ) → 8 ≤ n → (l : List ℕ) → Below (w + 8) l → 8 ≤ least_of n (values_of w l)
  unfolding least_of values_of
  least-near n h [] b = h
  least-near n h (c ∷ l) b = omega (arith, least-near n h l (λ i. b (suc i)), (value-near c (b 0)).0)

  greatest-near : (n : ℕ) → n ≤ w + 23 → (l : List ℕ) → Below (w + 8) l → greatest_of n (values_of w l) ≤ w + 23
  unfolding greatest_of values_of
  greatest-near n h [] b = h
  greatest-near n h (c ∷ l) b = omega (arith, greatest-near n h l (λ i. b (suc i)), (value-near c (b 0)).1)

-- ---- how many values lie from p to q with y for v, if the others lie from p to q as from p' to q', and none of them is y or y'
module _ (p q y p' q' y' : ℕ) (i : within p q y ≡ true) (i' : within p' q' y' ≡ true) where
  abbrev CountsAlike : ℕ → Type 0
  CountsAlike x = (within p q x ≡ within p' q' x) × (x ≡ y → ⊥) × (x ≡ y' → ⊥)

  absent : (z : ℕ) → ((x : ℕ) → CountsAlike x → x ≡ z → ⊥) → (s : List ℕ) → All CountsAlike s → member z s ≡ false
  unfolding member
  absent z f [] a = refl
  absent z f (x ∷ s) (h, a) = rw (ne_eqb z x (λ e. f x h (sym e)), absent z f s a)

  count-alike : (s : List ℕ) → All CountsAlike s → different_within p q s ≡ different_within p' q' s
  unfolding different_within
  count-alike [] a = refl
  count-alike (x ∷ s) (h, a) = rw (h.0, count-alike s a)

  count_own : (s : List ℕ) (v : ℕ) → All CountsAlike s → different_within p q (set s v y) ≡ different_within p' q' (set s v y')
  unfolding different_within
  count_own [] v a = refl
  count_own (x ∷ s) zero (h, a) = rw (i, i', absent y (λ x h. h.1) s a, absent y' (λ x h. h.2) s a, count-alike s a)
  count_own (x ∷ s) (suc v) (h, a) =
      rw (h.0, member-set x v y y' s (ne_eqb x y h.1) (ne_eqb x y' h.2), count_own s v a)

-- ---- the codes with y for v, and with y'
module _ (w v : ℕ) (s : List ℕ) (y y' : ℕ) where
  abbrev f : ℕ → ℕ
  f = lane_code w (set s v y)

  abbrev g : ℕ → ℕ
  g = lane_code w (set s v y')

  codes_alike : (P : ℕ → Type 0) → All P s → ((x : ℕ) → P x → Uncounted w x y × Uncounted w x y') → f y ≡ g y' → codes_of w (set s v y) ≡ codes_of w (set s v y')
  unfolding codes_of
  codes_alike P a u own =
      sym (set-map f s v y) ∙ ap₂ (λ (l : List ℕ) (x : ℕ). set l v x) (map-all f g s others) own ∙ set-map g s v y'
    where
      others : All (λ x. f x ≡ g x) s
      others = all_weaker P (λ x. f x ≡ g x) (λ x h. let (k, k') = u x h in code_set w x v y y' s k k') s a

  codes_low : y < least_of low s → y' < least_of low s → codes_of w (set s v y) ≡ codes_of w (set s v y')
  codes_low h h' = codes_alike (λ x. m ≤ x) all.1 (λ x k. (apart x y k h, apart x y' k h')) own
    where
      m : ℕ
      m = least_of low s

      all : (m ≤ low) × All (λ x. m ≤ x) s
      all = least-all m low s (omega arith)

      apart : (x z : ℕ) → m ≤ x → z < m → Uncounted w x z
      apart x z k l = let few = all.0 in (within-under (suc (high w)) x z (omega arith), within-under x 15 z (omega arith))

      here : (z : ℕ) → z < m → within z 15 z ≡ true
      here z l = let few = all.0 in rw (le-leb z z (omega arith), le-leb z 15 (omega arith))

      alike : (x : ℕ) → m ≤ x → CountsAlike y 15 y y' 15 y' (here y h) (here y' h') x
      alike x k = (rw (le-leb y x (omega arith), le-leb y' x (omega arith)), (λ e. omega arith), (λ e. omega arith))

      count : different_within y 15 (set s v y) ≡ different_within y' 15 (set s v y')
      count = count_own y 15 y y' 15 y' (here y h) (here y' h') s v (all_weaker (λ x. m ≤ x) _ alike s all.1)

      own : f y ≡ g y'
      own =
          let few = all.0 in
          sym (code_under w y _ (set s v y) (omega arith) (omega arith) refl) ∙ ap (λ (n : ℕ). w + 3 + n) count
          ∙ code_under w y' _ (set s v y') (omega arith) (omega arith) refl

  codes_high : greatest_of (high w) s < y → greatest_of (high w) s < y' → codes_of w (set s v y) ≡ codes_of w (set s v y')
  codes_high h h' = codes_alike (λ x. x ≤ m) all.1 (λ x k. (apart x y k h, apart x y' k h')) own
    where
      m : ℕ
      m = greatest_of (high w) s

      all : (high w ≤ m) × All (λ x. x ≤ m) s
      all = greatest-all m (high w) s (omega arith)

      apart : (x z : ℕ) → x ≤ m → m < z → Uncounted w x z
      apart x z k l = let few = all.0 in (within-over (suc (high w)) x z (omega arith), within-over x 15 z (omega arith))

      here : (z : ℕ) → m < z → within (15 + w + 1) z z ≡ true
      here z l = let few = all.0 in rw (le-leb (15 + w + 1) z (omega arith), le-leb z z (omega arith))

      alike : (x : ℕ) → x ≤ m → CountsAlike (15 + w + 1) y y (15 + w + 1) y' y' (here y h) (here y' h') x
      alike x k = (rw (le-leb x y (omega arith), le-leb x y' (omega arith)), (λ e. omega arith), (λ e. omega arith))

      count : different_within (15 + w + 1) y (set s v y) ≡ different_within (15 + w + 1) y' (set s v y')
      count = count_own (15 + w + 1) y y (15 + w + 1) y' y' (here y h) (here y' h') s v (all_weaker (λ x. x ≤ m) _ alike s all.1)

      own : f y ≡ g y'
      own =
          let few = all.0 in
          sym (code_above w y _ (set s v y) (omega arith) refl) ∙ ap (λ (n : ℕ). w + n - 1) count
          ∙ code_above w y' _ (set s v y') (omega arith) refl

-- ---- the records that a pattern word's fan is tried with
module _ (w p : ℕ) where
  abbrev s : List ℕ
  s = values_of w (lanes w p)

  pub least_fits : 8 ≤ least_of low s
  least_fits = least-near w low (omega arith) (lanes w p) (lanes-below w p)

  pub greatest_fits : greatest_of (high w) s ≤ w + 23
  greatest_fits = greatest-near w (high w) (omega arith) (lanes w p) (lanes-below w p)

  pub trial_fits : (y : ℕ) → first_trial s ≤ y → y ≤ last_trial w s → Trial w y
  trial_fits y a b = record { first = omega (arith, a, least_fits); last = omega (arith, b, greatest_fits) }

  module _ (v y : ℕ) where
    pub trial_low : y ≤ first_trial s → assign_of w p v y ≡ assign_of w p v (first_trial s)
    unfolding assign_of word_of
    trial_low h =
        ap (λ (c : List ℕ). undigits lane (store_of w c))
        (codes_low w v s y (first_trial s) (omega (arith, h, least_fits)) (omega (arith, least_fits)))

    pub trial_high : last_trial w s ≤ y → assign_of w p v y ≡ assign_of w p v (last_trial w s)
    unfolding assign_of word_of
    trial_high h = ap (λ (c : List ℕ). undigits lane (store_of w c)) (codes_high w v s y (last_trial w s) (omega (arith, h)) (omega arith))

    -- every record gives the word of one of them
    pub trial_told : (u : ℕ) × (first_trial s ≤ u) × (u ≤ last_trial w s) × (assign_of w p v u ≡ assign_of w p v y)
    trial_told = go (ltb y (first_trial s)) (ltb (last_trial w s) y) refl refl
      where
        apart : first_trial s ≤ last_trial w s
        apart =
            let (few, a) = least-all (least_of low s) low s (omega arith) in
            let (most, b) = greatest-all (greatest_of (high w) s) (high w) s (omega arith) in omega arith

        go : (a b : Bool) → ltb y (first_trial s) ≡ a → ltb (last_trial w s) y ≡ b
            → (u : ℕ) × (first_trial s ≤ u) × (u ≤ last_trial w s) × (assign_of w p v u ≡ assign_of w p v y)
        go true b e f = let h = ltb-true y (first_trial s) e in (first_trial s, omega arith, apart, sym (trial_low (omega arith)))
        go false true e f = let h = ltb-true (last_trial w s) y f in (last_trial w s, apart, omega arith, sym (trial_high (omega arith)))
        go false false e f = (y, ltb-false y (first_trial s) e, ltb-false (last_trial w s) y f, refl)
