-- The functions on digits and codes, variable by variable: the turns of their loops, and their ends.
use mathlib.Core.Path.{◌≡◌, refl, sym, ap, ap₂, ◌∙◌, subst}
use mathlib.Core.Bool.{Bool, true, false, cond}
use mathlib.Core.List.{List, [], ◌∷◌, ◌++◌}
use Prim.Native.Nat.{ℕ, zero, suc, ◌+◌, ◌*◌, ◌-◌, ◌/◌, ◌%◌, ◌<◌, ◌≤◌}
use native.Mathlib.Omega.{arith}
use lib.ListN.{length, get_or, set, take, drop, length-drop, drop_of_length-le}
use Rattle.std.proofs.lemmas.List.{get_or-drop, at_drop_more}
use lib.Dec.{ltb}
use borrow.Author.Tests.{ltb-true, lt-ltb}
use Rattle.graph.specs.Lists.{In}
use Rattle.outside_row.specs.Inner.Table.{IsEntry, entries_for, key_of, slot_of, key_at, place_in}
use Rattle.outside_row.proofs.Keys.{Octal, key-head, key_rest, slot_below, all_drop}
use Rattle.outside_row.proofs.Entries.{entry_octal}
use Rattle.pattern_word.specs.Inner.Digits.{digits, Below}
use Rattle.pattern_word.specs.Inner.Pattern.{Width, lane, lanes, excess, recall_from, recall_of, AreCodes, store_from, store_of}
use Rattle.pattern_word.proofs.Digits.{length_digits}
use Rattle.pattern_word.proofs.Turns.{write_turn, all_written}
use Rattle.pattern_word.proofs.Ranks.{codes_below, length_codes}
use Rattle.pattern_word.proofs.Stored.{excess-inside, store_inside, recall_inside, excess-outside, store_outside, recall_outside, InOrOut, lower, upper, in_or_out, none_stored, none_recalled, excess-few, codes_storable}

-- ---- `outs`, `index`, `slots`: one number of a list, by its place j, the next being i
module _ (w : ℕ) (l : List ℕ) (i j : ℕ) (next : j + 1 ≡ i) (h : j < length l) where
  at-place : excess w (drop j l) ≡ excess w (get_or l j 0 ∷ drop i l)
  at-place = at_drop_more (excess w) l j 0 h ∙ ap (λ (n : ℕ). excess w (get_or l j 0 ∷ drop n l)) next

  pub drop_inside : get_or l j 0 < w → excess w (drop j l) ≡ excess w (drop i l)
  drop_inside k = at-place ∙ excess-inside w (get_or l j 0) k (drop i l)

  pub drop_outside : w ≤ get_or l j 0 → excess w (drop j l) ≡ (get_or l j 0 - w) ∷ excess w (drop i l)
  drop_outside k = at-place ∙ excess-outside w (get_or l j 0) k (drop i l)

  pub slot_inside : get_or l j 0 < w → (s : ℕ) → s ≡ slot_of (excess w (drop i l)) → s ≡ slot_of (excess w (drop j l))
  slot_inside k s e = e ∙ ap slot_of (sym (drop_inside k))

  pub slot_outside : w ≤ get_or l j 0 → (s : ℕ) → s ≡ slot_of (excess w (drop i l)) → get_or l j 0 - w + 8 * s + 1 ≡ slot_of (excess w (drop j l))
  unfolding slot_of
  slot_outside k s e = omega (arith, e, ap slot_of (drop_outside k))

pub excess-end : (w : ℕ) (l : List ℕ) (i : ℕ) → length l ≤ i → excess w (drop i l) ≡ []
unfolding excess
excess-end w l i h = ap (excess w) (drop_of_length-le l {i = i} h)

-- codes below w + 8 have ranks with numbers below 8
octal_excess : (w : ℕ) (l : List ℕ) → Below (w + 8) l → Octal (excess w l)
unfolding excess
octal_excess w [] f = tt
octal_excess w (c ∷ l) f = go (in_or_out w c) (octal_excess w l (λ i. f (suc i)))
  where
    go : InOrOut w c → Octal (excess w l) → Octal (excess w (c ∷ l))
    go (lower h) o = subst (Octal) (sym (excess-inside w c h l)) o
    go (upper h) o = subst (Octal) (sym (excess-outside w c h l)) (omega (arith, f 0), o)

pub slots-few : (w : ℕ) (l : List ℕ) (i : ℕ) → Below (w + 8) l → length l ≤ 4 → slot_of (excess w (drop i l)) < 4681
slots-few w l i f few =
    slot_below (excess w (drop i l)) (octal_excess w (drop i l) (λ k. omega (arith, get_or-drop i l k 0, f (i + k))))
    (omega (arith, excess-few w (drop i l), length-drop i l))

-- ---- `recall_from`
octal_left : (w d : ℕ) (l : List ℕ) → Octal l → Octal (cond (ltb d w) l (drop 1 l))
octal_left w d l a = go (ltb d w) l a
  where
    go : (b : Bool) (l : List ℕ) → Octal l → Octal (cond b l (drop 1 l))
    go true l a = a
    go false [] a = tt
    go false (b ∷ l) (h, a) = a

-- a turn: the digit in place i, and the ranks r of those from there on
module _ (w k i : ℕ) (l r : List ℕ) (h : i < length l) (o : Octal r) (e : k ≡ key_of r) where
  pub recall_left : get_or l i 0 < w
      → take (i + 1) (set l i (get_or l i 0)) ++ recall_from w (drop (i + 1) (set l i (get_or l i 0))) r ≡ take i l ++ recall_from w (drop i l) r
  recall_left q =
      write_turn (λ t. recall_from w t r) l i (get_or l i 0) h
      ∙ ap (λ (t : List ℕ). take i l ++ t) (sym (at_drop_more (λ t. recall_from w t r) l i 0 h ∙ recall_inside w (get_or l i 0) q (drop (i + 1) l) r))

  pub recall_written : w ≤ get_or l i 0
      → take (i + 1) (set l i (w + k % 8)) ++ recall_from w (drop (i + 1) (set l i (w + k % 8))) (drop 1 r) ≡ take i l ++ recall_from w (drop i l) r
  recall_written q =
      write_turn (λ t. recall_from w t (drop 1 r)) l i (w + k % 8) h
      ∙ ap (λ (n : ℕ). take i l ++ ((w + n) ∷ recall_from w (drop (i + 1) l) (drop 1 r))) (ap (λ (n : ℕ). n % 8) e ∙ key-head r o)
      ∙ ap (λ (t : List ℕ). take i l ++ t) (sym (at_drop_more (λ t. recall_from w t r) l i 0 h ∙ recall_outside w (get_or l i 0) q (drop (i + 1) l) r))

  pub octal_rest : Octal (drop 1 r)
  octal_rest = all_drop 1 r o

  pub key-rest : k / 8 ≡ key_of (drop 1 r)
  key-rest = ap (λ (n : ℕ). n / 8) e ∙ key_rest r o

pub all_recalled : (w : ℕ) (r l : List ℕ) (i : ℕ) → length l ≤ i → l ≡ take i l ++ recall_from w (drop i l) r
unfolding recall_from
all_recalled w r = all_written (λ t. recall_from w t r) refl

-- ---- `recall`
no_length : (l : List ℕ) → length l ≡ 0 → l ≡ []
no_length [] e = refl
no_length (x ∷ l) e = absurd (omega arith)

module _ (w : ℕ) (d : List ℕ) where
  pub recall_none : 0 ≡ length (excess w d) → d ≡ recall_of w d
  unfolding recall_of
  recall_none e = sym (none_recalled w d _ (no_length (excess w d) (sym e)))

  pub recall_some : (v n k : ℕ) (r : List ℕ) → v ≡ length (excess w d) → n ≡ get_or (excess w d) 0 0 → k ≡ key_at v n
      → ((l : List ℕ) → Octal l → k ≡ key_of l → r ≡ recall_from w d l) → r ≡ recall_of w d
  unfolding recall_of key_at
  recall_some v n k r ev en ek f =
      f (get_or (entries_for v) n []) (entry_octal v n) ek ∙ ap₂ (λ (i j : ℕ). recall_from w d (get_or (entries_for i) j [])) ev en

recall_digit : (w : ℕ) (ds l : List ℕ) (u : ℕ) → u < length ds → get_or ds u 0 < w → get_or (recall_from w ds l) u 0 ≡ get_or ds u 0
unfolding recall_from
recall_digit w [] l u k h = refl
recall_digit w (x ∷ ds) l zero k h = rw (lt-ltb x w h)
recall_digit w (x ∷ ds) l (suc u) k h = recall_digit w ds (cond (ltb x w) l (drop 1 l)) u (omega arith) h

recall_from-below : (w : ℕ) (ds l : List ℕ) → Octal l → Below (w + 8) (recall_from w ds l)
unfolding recall_from
recall_from-below w [] l o i = omega arith
recall_from-below w (d ∷ ds) l o zero = go (ltb d w) refl l o
  where
    go : (t : Bool) → ltb d w ≡ t → (l : List ℕ) → Octal l → cond t d (w + get_or l 0 0) < w + 8
    go true e l o = omega (arith, ltb-true d w e)
    go false e [] o = omega arith
    go false e (x ∷ l) (k, o) = omega arith
recall_from-below w (d ∷ ds) l o (suc i) = recall_from-below w ds (cond (ltb d w) l (drop 1 l)) (octal_left w d l o) i

-- whatever the word, a code is below w + 8
pub lanes-below : (w pattern : ℕ) → Below (w + 8) (lanes w pattern)
unfolding recall_of
lanes-below w pattern = recall_from-below w (digits lane 4 pattern) _ (entry_octal _ _)

module _ (w pattern : ℕ) (h : Width w) where
  module _ (d c : List ℕ) (ed : d ≡ digits lane 4 pattern) (ec : c ≡ recall_of w d) where
    pub lanes_recalled : c ≡ lanes w pattern
    lanes_recalled = ec ∙ ap (recall_of w) ed

    pub recalled_below : Below lane c
    recalled_below = subst (Below lane) (sym lanes_recalled) (λ i. omega (arith, lanes-below w pattern i, h.few))

  -- a code inside is its digit
  pub lane_inside : (u : ℕ) → u < 4 → get_or (digits lane 4 pattern) u 0 < w → get_or (lanes w pattern) u 0 ≡ get_or (digits lane 4 pattern) u 0
  unfolding recall_of
  lane_inside u l k = recall_digit w (digits lane 4 pattern) _ u (omega (arith, length_digits lane 4 pattern)) k

-- ---- `store_from`, `store`
-- a turn: the code in place i
module _ (w n i : ℕ) (l : List ℕ) (h : i < length l) where
  pub store_left : get_or l i 0 < w
      → take (i + 1) (set l i (get_or l i 0)) ++ store_from w n (drop (i + 1) (set l i (get_or l i 0))) ≡ take i l ++ store_from w n (drop i l)
  store_left q =
      write_turn (store_from w n) l i (get_or l i 0) h
      ∙ ap (λ (t : List ℕ). take i l ++ t) (sym (at_drop_more (store_from w n) l i 0 h ∙ store_inside w (get_or l i 0) q n (drop (i + 1) l)))

  pub store_written : w ≤ get_or l i 0 → take (i + 1) (set l i n) ++ store_from w w (drop (i + 1) (set l i n)) ≡ take i l ++ store_from w n (drop i l)
  store_written q =
      write_turn (store_from w w) l i n h
      ∙ ap (λ (t : List ℕ). take i l ++ t) (sym (at_drop_more (store_from w n) l i 0 h ∙ store_outside w (get_or l i 0) q n (drop (i + 1) l)))

pub all_stored : (w n : ℕ) (l : List ℕ) (i : ℕ) → length l ≤ i → l ≡ take i l ++ store_from w n (drop i l)
unfolding store_from
all_stored w n = all_written (store_from w n) refl

module _ (w : ℕ) (h : Width w) (c : List ℕ) (k : AreCodes w c) where
  four : length c ≡ 4
  four = ap length k.is ∙ length_codes w k.values ∙ k.four

  pub codes_under : Below (w + 8) c
  codes_under = subst (Below (w + 8)) (sym k.is) (codes_below w k.values (omega (arith, k.four)))

  storable : In (excess w c) (entries_for (length (excess w c)))
  storable =
      subst (λ (l : List ℕ). In (excess w l) (entries_for (length (excess w l)))) (sym k.is) (codes_storable w h k.values (omega (arith, k.four)))

  no_slot : (l : List ℕ) → 0 ≡ slot_of l → l ≡ []
  unfolding slot_of
  no_slot [] e = refl
  no_slot (x ∷ l) e = absurd (omega arith)

  pub store_none : 0 ≡ slot_of (excess w c) → c ≡ store_of w c
  unfolding store_of
  store_none e = sym (none_stored w _ c (no_slot (excess w c) e))

  pub store_entry : (s : ℕ) → s ≡ slot_of (excess w c) → (s ≡ 0 → ⊥) → IsEntry (excess w c)
  unfolding slot_of
  store_entry s e n =
      record { some = longer (excess w c) (λ q. n (e ∙ ap slot_of q)); few = omega (arith, excess-few w c, four); is = storable }
    where
      longer : (l : List ℕ) → (l ≡ [] → ⊥) → 1 ≤ length l
      longer [] f = absurd (f refl)
      longer (x ∷ l) f = omega arith

  pub store_some : (n : ℕ) (r : List ℕ) → n ≡ place_in (entries_for (length (excess w c))) (excess w c) → r ≡ store_from w (w + n) c → r ≡ store_of w c
  unfolding store_of
  store_some n r en er = er ∙ ap (λ (i : ℕ). store_from w (w + i) c) en
