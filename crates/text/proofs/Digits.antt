-- The number reader's steps. What digits are read as depends on the size so far only up to the cap, so the code may keep the
-- capped size; the laws then follow the code's tests: a byte that is a digit or none, the leading zero, the minus, and -0.
use mathlib.Core.Path.{◌≡◌, refl, sym, ap, ◌∙◌}
use mathlib.Core.Bool.{Bool, true, false, cond}
use mathlib.Core.List.{List, [], ◌∷◌}
use Rattle.std.specs.Prelude.{Option, None, Some, option_map}
use Prim.Native.Nat.{ℕ, zero, suc, ◌+◌, ◌-◌, ◌*◌, ◌≤◌, ◌<◌, ◌^◌, min}
use native.Mathlib.Omega.{arith}
use native.Mathlib.Numerals.{add-one}
use borrow.Author.Tests.{eq-eqb, ne_eqb}
use lib.Dec.{eqb}
use lib.ListN.{length, get_or, take, drop, drop_of_length-le}
use lib.Seq.{drop-cons, take_all}
use lib.IntN.{ℤ, pos, neg_ℤ, ◌-ℤ◌, +ℤ_idl}
use lib.Signed.{mag}
use mir.Syntax.{w64}
use mir.Val.{SFits, to_z, of_z}
use mir.Facts.{to_z-of_z}
use Rattle.text.specs.Number.{is_digit, digits_after, natural, negative, numeral}
use Rattle.text.specs.Inner.Capped.{cap, capped}

-- the code's answer on a size
abbrev pub answer : Option ℕ → Option ℤ
answer size = option_map capped (option_map pos size)

-- ---- a run of digits
pub capped_so_far : (n : ℕ) (bs : List ℕ) → answer (digits_after (min n cap) bs) ≡ answer (digits_after n bs)
unfolding digits_after capped
capped_so_far n [] =
    let twice : min (min n cap) cap ≡ min n cap = omega arith in
    ap (λ (m : ℕ). Some (pos m)) twice
capped_so_far n (b ∷ bs) =
    by (is_digit b) (sym (capped_so_far (next (min n cap)) bs) ∙ ap (λ (k : ℕ). answer (digits_after k bs)) same ∙ capped_so_far (next n) bs)
  where
    next : ℕ → ℕ
    next k = k * 10 + (b - 48)

    same : min (next (min n cap)) cap ≡ min (next n) cap
    same = omega arith

    by : (t : Bool) →
        answer (digits_after (next (min n cap)) bs) ≡ answer (digits_after (next n) bs) →
        answer (cond t (digits_after (next (min n cap)) bs) None) ≡ answer (cond t (digits_after (next n) bs) None)
    by true e = e
    by false e = refl

pub digits-end : (s : List ℕ) (i n : ℕ) → length s ≤ i → n ≤ cap → answer (digits_after n (drop i s)) ≡ Some (pos n)
unfolding digits_after capped
digits-end s i n h l =
    let low : min n cap ≡ n = omega arith in
    rw (drop_of_length-le s h, low)

module _ (s : List ℕ) (i n : ℕ) (h : i < length s) where
  pub digit_at : is_digit (get_or s i 0) ≡ true → digits_after n (drop i s) ≡ digits_after (n * 10 + (get_or s i 0 - 48)) (drop (i + 1) s)
  unfolding digits_after
  digit_at e = rw (add-one, drop-cons s i 0, e)

  pub no-digit-at : is_digit (get_or s i 0) ≡ false → digits_after n (drop i s) ≡ None
  unfolding digits_after
  no-digit-at e = rw (drop-cons s i 0, e)

-- ---- a number without a minus
pub natural_empty : (s : List ℕ) → length s ≡ 0 → natural s ≡ None
unfolding natural
natural_empty [] h = refl
natural_empty (b ∷ bs) h = absurd (omega arith)

natural-long : (s : List ℕ) → 1 < length s → natural s ≡ cond (eqb (get_or s 0 0) 48) None (digits_after 0 s)
unfolding natural
natural-long [] h = absurd (omega arith)
natural-long (b ∷ []) h = absurd (omega arith)
natural-long (b ∷ d ∷ bs) h = refl

pub natural-zero : (s : List ℕ) → 1 < length s → get_or s 0 0 ≡ 48 → natural s ≡ None
natural-zero s h e = rw (natural-long s h, eq-eqb _ _ e)

pub natural-plain : (s : List ℕ) → 0 < length s → (1 < length s → get_or s 0 0 ≡ 48 → ⊥) → natural s ≡ digits_after 0 s
unfolding natural
natural-plain [] h e = absurd (omega arith)
natural-plain (b ∷ []) h e = refl
natural-plain (b ∷ d ∷ bs) h e = rw (ne_eqb b 48 (e (omega arith)))

-- ---- a number, with a minus or without
-- what stands behind the first byte, as the code takes it
abbrev pub digits_behind : List ℕ → List ℕ
digits_behind s = take (length s - 1) (drop 1 s)

numeral-signed : (minus : Bool) (s : List ℕ) → 0 < length s →
    numeral minus s ≡ cond (eqb (get_or s 0 0) 45) (cond minus (negative (natural (digits_behind s))) None) (option_map pos (natural s))
unfolding numeral
numeral-signed minus [] h = absurd (omega arith)
numeral-signed minus (b ∷ bs) h = rw (take_all (length (b ∷ bs) - 1) bs (omega arith))

pub numeral_plain : (minus : Bool) (s : List ℕ) → (0 < length s → get_or s 0 0 ≡ 45 → ⊥) → numeral minus s ≡ option_map pos (natural s)
unfolding numeral natural
numeral_plain minus [] e = refl
numeral_plain minus (b ∷ bs) e = rw (ne_eqb b 45 (e (omega arith)))

module _ (minus : Bool) (s : List ℕ) (h : 0 < length s) (e : get_or s 0 0 ≡ 45) where
  pub numeral_barred : minus ≡ false → numeral minus s ≡ None
  numeral_barred m = rw (numeral-signed minus s h, eq-eqb _ _ e, m)

  pub numeral_minus : minus ≡ true → numeral minus s ≡ negative (natural (digits_behind s))
  numeral_minus m = rw (numeral-signed minus s h, eq-eqb _ _ e, m)

-- ---- the size behind a minus, which the code holds as v in 64 bits
size_bad : (size : Option ℕ) → answer size ≡ None → size ≡ None
size_bad None e = refl
size_bad (Some n) e = cc

size-value : (size : Option ℕ) (v : ℤ) → answer size ≡ Some v → (n : ℕ) × (size ≡ Some n) × (v ≡ pos (min n cap))
unfolding capped
size-value None v e = cc
size-value (Some n) v e = (n, refl, cc)

mag_negated : (n : ℕ) → n ≤ cap → mag (neg_ℤ (pos n)) < 2 ^ 63
mag_negated zero h = omega arith
mag_negated (suc n) h = omega arith

negated_capped : (n : ℕ) → (min n cap ≡ 0 → ⊥) → Some (neg_ℤ (pos (min n cap))) ≡ option_map capped (negative (Some n))
unfolding negative capped
negated_capped zero h = absurd (h (omega arith))
negated_capped (suc n) h =
    let less : min (suc n) cap ≡ suc (min n (cap - 1)) = omega arith in
    ap (λ (k : ℕ). Some (neg_ℤ (pos k))) less

pub minus_bad : (size : Option ℕ) → answer size ≡ None → None ≡ option_map capped (negative size)
unfolding negative
minus_bad size e = rw (size_bad size e)

module _ (size : Option ℕ) (v : ℤ) (read : answer size ≡ Some v) where
  held : to_z w64 (of_z w64 v) ≡ v
  held =
      let (n, s, e) = size-value size v read in
      to_z-of_z {w = w64} (rw e (record { sfits = omega arith }))

  pub minus_fits : SFits w64 (pos 0 -ℤ to_z w64 (of_z w64 v))
  minus_fits =
      let (n, s, e) = size-value size v read in
      rw (held, e, +ℤ_idl (neg_ℤ (pos (min n cap)))) (record { sfits = mag_negated (min n cap) (omega arith) })

  pub minus_zero : of_z w64 v ≡ 0 → None ≡ option_map capped (negative size)
  unfolding negative
  minus_zero z =
      let (n, s, e) = size-value size v read in
      let m : min n cap ≡ 0 = sym (ap (of_z w64) e) ∙ z in
      let k : n ≡ 0 = omega arith in
      rw (s, k)

  pub minus_value : (of_z w64 v ≡ 0 → ⊥) → Some (to_z w64 (of_z w64 (pos 0 -ℤ to_z w64 (of_z w64 v)))) ≡ option_map capped (negative size)
  minus_value z =
      let (n, s, e) = size-value size v read in
      ap Some (to_z-of_z minus_fits ∙ ap (λ (k : ℤ). pos 0 -ℤ k) (held ∙ e) ∙ +ℤ_idl (neg_ℤ (pos (min n cap))))
      ∙ negated_capped n (λ k. z (ap (of_z w64) e ∙ k))
      ∙ sym (ap (λ (q : Option ℕ). option_map capped (negative q)) s)
