-- Digits, written and read one by one. n * 10 + d is written as n with the digit d behind it; so digits that are read after n, put behind n as
-- it is written, are the number read, as it is written. And a number of two digits or more does not begin with 0.
use mathlib.Core.Path.{◌≡◌, refl, sym, ap, ◌∙◌}
use mathlib.Core.Bool.{Bool, true, false, cond, ◌&&◌}
use mathlib.Core.List.{List, [], ◌∷◌, ◌++◌, reverse, reverse-cons, append-nil, append_assoc}
use Rattle.std.specs.Prelude.{None, Some}
use Prim.Native.Nat.{ℕ, zero, suc, ◌+◌, ◌-◌, ◌*◌, ◌<◌}
use native.Mathlib.Omega.{arith}
use borrow.Author.Tests.{le-leb, leb-true, ne_eqb}
use lib.Dec.{eqb, leb}
use Rattle.text.specs.Number.{digits_after, natural}
use Rattle.text.specs.Write.{next, counted_digits, decimal}
use Rattle.text.proofs.Digits.{natural-zero}
use Rattle.text.proofs.Cap.{none_no_some}

-- ---- the digits of n * 10 + d
-- the digits of n, the last first, where 0 has none
abbrev front : ℕ → List ℕ
front zero = []
front (suc n) = counted_digits (suc n)

front_next : (n : ℕ) → front (suc n) ≡ next (front n)
unfolding next counted_digits
front_next zero = refl
front_next (suc n) = refl

units : (n d : ℕ) → d < 10 → counted_digits (n * 10) ≡ 48 ∷ front n → counted_digits (n * 10 + d) ≡ (48 + d) ∷ front n
unfolding next counted_digits
units n zero l e = let z : n * 10 + 0 ≡ n * 10 = omega arith in rw z e
units n (suc d) l e =
    let s : n * 10 + suc d ≡ suc (n * 10 + d) = omega arith in
    let t : 48 + suc d ≡ suc (48 + d) = omega arith in
    let m : eqb (48 + d) 57 ≡ false = ne_eqb (48 + d) 57 (λ q. omega arith) in
    rw (s, t, units n d (omega arith) e, m)

tens : (n : ℕ) → counted_digits (n * 10) ≡ 48 ∷ front n
unfolding next counted_digits
tens zero = refl
tens (suc n) =
    let s : suc n * 10 ≡ suc (n * 10 + 9) = omega arith in
    rw (s, units n 9 (omega arith) (tens n), front_next n)

pub one_digit : (d : ℕ) → d < 10 → decimal d ≡ (48 + d) ∷ []
unfolding decimal
one_digit d l = let z : d ≡ 0 * 10 + d = omega arith in ap (λ (n : ℕ). reverse (counted_digits n)) z ∙ ap reverse (units 0 d l (tens 0))

pub more-digits : (n d : ℕ) → 0 < n → d < 10 → decimal (n * 10 + d) ≡ decimal n ++ ((48 + d) ∷ [])
unfolding decimal
more-digits zero d z l = absurd (omega arith)
more-digits (suc n) d z l = ap reverse (units (suc n) d l (tens (suc n))) ∙ reverse-cons (48 + d) (counted_digits (suc n))

-- ---- a number without a minus
-- one digit read
pub record FirstDigit (n : ℕ) (b : ℕ) (f : List ℕ) (m : ℕ) : Type 0 where
  pub d : ℕ
  pub small : d < 10
  pub byte : b ≡ 48 + d
  pub rest : digits_after (n * 10 + d) f ≡ Some m

pub first_digit : (n b : ℕ) (f : List ℕ) (m : ℕ) → digits_after n (b ∷ f) ≡ Some m → FirstDigit n b f m
unfolding digits_after
first_digit n b f m e = by (leb 48 b) (leb b 57) refl refl e
  where
    by : (t u : Bool) → leb 48 b ≡ t → leb b 57 ≡ u → cond (t && u) (digits_after (n * 10 + (b - 48)) f) None ≡ Some m → FirstDigit n b f m
    by true true lo hi e =
        let l = leb-true 48 b lo in
        let h = leb-true b 57 hi in
        record { d = b - 48; small = omega arith; byte = omega arith; rest = e }
    by true false lo hi e = absurd (none_no_some e)
    by false u lo hi e = absurd (none_no_some e)

pub digit_read : (n d : ℕ) (f : List ℕ) → d < 10 → digits_after n ((48 + d) ∷ f) ≡ digits_after (n * 10 + d) f
unfolding digits_after
digit_read n d f l =
    let back : 48 + d - 48 ≡ d = omega arith in
    rw (le-leb 48 (48 + d) (omega arith), le-leb (48 + d) 57 (omega arith), back)

pub digits_more : (m q d : ℕ) (f : List ℕ) → d < 10 → digits_after m f ≡ Some q → digits_after m (f ++ ((48 + d) ∷ [])) ≡ Some (q * 10 + d)
unfolding digits_after
digits_more m q d [] l e = let same : m ≡ q = cc in rw (digit_read m d [] l, same)
digits_more m q d (b ∷ f) l e =
    let o = first_digit m b f q e in
    rw o.byte (digit_read m o.d (f ++ ((48 + d) ∷ [])) o.small ∙ digits_more (m * 10 + o.d) q d f l o.rest)

pub digits-written : (n m : ℕ) (f : List ℕ) → 0 < n → digits_after n f ≡ Some m → decimal n ++ f ≡ decimal m
unfolding digits_after
digits-written n m [] l e = let same : n ≡ m = cc in append-nil (decimal n) ∙ ap decimal same
digits-written n m (b ∷ f) l e =
    let o = first_digit n b f m e in
    rw o.byte
    (sym (append_assoc (decimal n) ((48 + o.d) ∷ []) f)
    ∙ ap (λ (g : List ℕ). g ++ f) (sym (more-digits n o.d l o.small))
    ∙ digits-written (n * 10 + o.d) m f (omega arith) o.rest)

-- the digits of a number, and its first one
pub natural-digits : (b : ℕ) (f : List ℕ) (n : ℕ) → natural (b ∷ f) ≡ Some n → digits_after 0 (b ∷ f) ≡ Some n
unfolding natural
natural-digits b [] n e = e
natural-digits b (c ∷ f) n e = by (eqb b 48) e
  where
    by : (t : Bool) → cond t None (digits_after 0 (b ∷ c ∷ f)) ≡ Some n → digits_after 0 (b ∷ c ∷ f) ≡ Some n
    by true e = absurd (none_no_some e)
    by false e = e

pub no_zero : (b c : ℕ) (f : List ℕ) (n : ℕ) → natural (b ∷ c ∷ f) ≡ Some n → b ≡ 48 → ⊥
no_zero b c f n e h = none_no_some (sym (natural-zero (b ∷ c ∷ f) (omega arith) h) ∙ e)
