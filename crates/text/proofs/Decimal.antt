-- Numbers, written and read. n * 10 + d is written as n with the digit d behind it; so what is written is read as the number,
-- and what is read as a number is that number written.
use mathlib.Core.Path.{◌≡◌, refl, sym, ap, ◌∙◌}
use mathlib.Core.Bool.{Bool, true, false, cond}
use mathlib.Core.List.{List, [], ◌∷◌, ◌++◌}
use Rattle.std.specs.Prelude.{Option, None, Some, option_map}
use Prim.Native.Nat.{ℕ, zero, suc, ◌+◌, ◌*◌, ◌/◌, ◌%◌, ◌^◌, ◌≤◌, ◌<◌}
use native.Mathlib.Omega.{arith}
use native.Mathlib.Decide.{dec_lt}
use borrow.Author.Tests.{ne_eqb, eqb-true}
use lib.Dec.{eqb}
use lib.IntN.{ℤ, pos, negsuc, nat_abs}
use lib.ListN.{length, length-append}
use Rattle.text.specs.Number.{digits_after, natural, negative, numeral}
use Rattle.text.specs.Write.{decimal, signed}
pub use Rattle.text.proofs.Cap.{none_no_some}
pub use Rattle.text.proofs.DigitByDigit.{one_digit, more-digits, FirstDigit}
use Rattle.text.proofs.DigitByDigit.{first_digit, digit_read, digits_more, digits-written, natural-digits, no_zero}
use Rattle.text.proofs.Joined.{Past}

-- ---- a number without a minus
-- one digit more behind a number other than 0
natural_longer : (f : List ℕ) (q d : ℕ) → 0 < q → d < 10 → natural f ≡ Some q → natural (f ++ ((48 + d) ∷ [])) ≡ Some (q * 10 + d)
unfolding natural digits_after
natural_longer [] q d z l e = absurd (none_no_some e)
natural_longer (b ∷ []) q d z l e =
    let lead : b ≡ 48 → ⊥ = λ h. let zero : Some 0 ≡ Some q = rw h at e in let None : 0 ≡ q = cc in omega arith in
    rw (ne_eqb b 48 lead) (digits_more 0 q d (b ∷ []) l e)
natural_longer (b ∷ c ∷ f) q d z l e =
    rw (ne_eqb b 48 (no_zero b c f q e)) (digits_more 0 q d (b ∷ c ∷ f) l (natural-digits b (c ∷ f) q e))

-- what is written is read: the numbers below k
read_below : (k n : ℕ) → n < k → natural (decimal n) ≡ Some n
unfolding natural digits_after
read_below zero n l = absurd (omega arith)
read_below (suc k) n l = by (dec_lt n 10) (read_below k)
  where
    by : Dec (n < 10) → ((q : ℕ) → q < k → natural (decimal q) ≡ Some q) → natural (decimal n) ≡ Some n
    by (yes h) below = let same : 0 * 10 + n ≡ n = omega arith in rw (one_digit n h) (digit_read 0 n [] h ∙ ap Some same)
    by (no h) below =
        let q : ℕ = n / 10 in
        let d : ℕ = n % 10 in
        let split : n ≡ q * 10 + d = omega arith in
        rw (split, more-digits q d (omega arith) (omega arith))
        (natural_longer (decimal q) q d (omega arith) (omega arith) (below q (omega arith)))

pub decimal-read : (n : ℕ) → natural (decimal n) ≡ Some n
decimal-read n = read_below (suc n) n (omega arith)

-- what is read was written
pub natural-written : (f : List ℕ) (n : ℕ) → natural f ≡ Some n → f ≡ decimal n
unfolding natural digits_after
natural-written [] n e = absurd (none_no_some e)
natural-written (b ∷ []) n e =
    let o = first_digit 0 b [] n e in
    let same : 0 * 10 + o.d ≡ n = cc in
    let d-is : o.d ≡ n = omega arith in
    rw o.byte (sym (one_digit o.d o.small) ∙ ap decimal d-is)
natural-written (b ∷ c ∷ f) n e =
    let o = first_digit 0 b (c ∷ f) n (natural-digits b (c ∷ f) n e) in
    let d-is : o.d ≡ 0 * 10 + o.d = omega arith in
    let led : 0 < 0 * 10 + o.d = omega (arith, no_zero b c f n e) in
    rw o.byte
    (ap (λ (g : List ℕ). g ++ (c ∷ f)) (sym (one_digit o.d o.small) ∙ ap decimal d-is)
    ∙ digits-written (0 * 10 + o.d) n (c ∷ f) led o.rest)

-- ---- a number with a minus or without: `minus` says whether it may have one
abbrev pub written-number : Bool → ℤ → List ℕ
written-number true z = signed z
written-number false z = decimal (nat_abs z)

natural_plain : (minus : Bool) (f : List ℕ) (n : ℕ) → natural f ≡ Some n → numeral minus f ≡ Some (pos n)
unfolding numeral natural
natural_plain minus [] n e = absurd (none_no_some e)
natural_plain minus (b ∷ f) n e =
    let o = first_digit 0 b f n (natural-digits b f n e) in
    rw (ne_eqb b 45 (λ h. omega arith), e)

pub signed-read : (z : ℤ) → numeral true (signed z) ≡ Some z
unfolding numeral negative
signed-read (pos n) = natural_plain true (decimal n) n (decimal-read n)
signed-read (negsuc n) = rw (decimal-read (suc n))

pub plain_read : (n : ℕ) → numeral false (decimal n) ≡ Some (pos n)
plain_read n = natural_plain false (decimal n) n (decimal-read n)

pub numeral-written : (minus : Bool) (f : List ℕ) (z : ℤ) → numeral minus f ≡ Some z → f ≡ written-number minus z
unfolding numeral negative
numeral-written minus [] z e = absurd (none_no_some e)
numeral-written minus (b ∷ f) z e = by minus (eqb b 45) refl e
  where
    plain : (m : Bool) (o : Option ℕ) → natural (b ∷ f) ≡ o → option_map pos o ≡ Some z → b ∷ f ≡ written-number m z
    plain m None h e = absurd (none_no_some e)
    plain true (Some n) h e = let is : pos n ≡ z = cc in natural-written (b ∷ f) n h ∙ ap (written-number true) is
    plain false (Some n) h e = let is : pos n ≡ z = cc in natural-written (b ∷ f) n h ∙ ap (written-number false) is

    below : (o : Option ℕ) → natural f ≡ o → b ≡ 45 → negative o ≡ Some z → b ∷ f ≡ signed z
    below None h m e = absurd (none_no_some e)
    below (Some zero) h m e = absurd (none_no_some e)
    below (Some (suc n)) h m e = let is : negsuc n ≡ z = cc in rw m (ap (◌∷◌ 45) (natural-written f (suc n) h) ∙ ap signed is)

    by : (m t : Bool) → eqb b 45 ≡ t → cond t (cond m (negative (natural f)) None) (option_map pos (natural (b ∷ f))) ≡ Some z → b ∷ f ≡ written-number m z
    by m false h e = plain m (natural (b ∷ f)) refl e
    by true true h e = below (natural f) refl (eqb-true b 45 h) e
    by false true h e = absurd (none_no_some e)

-- ---- the bytes of a number, and how many they are
digits_past : (n m : ℕ) (f : List ℕ) → digits_after n f ≡ Some m → Past 44 f
digits_past n m [] e = tt
digits_past n m (b ∷ f) e =
    let o = first_digit n b f m e in
    (omega arith, digits_past (n * 10 + o.d) m f o.rest)

pub decimal_past : (n : ℕ) → Past 44 (decimal n)
decimal_past n = by (decimal n) (decimal-read n)
  where
    by : (f : List ℕ) → natural f ≡ Some n → Past 44 f
    by [] e = tt
    by (b ∷ f) e = digits_past 0 n (b ∷ f) (natural-digits b f n e)

pub signed_past : (z : ℤ) → Past 44 (signed z)
signed_past (pos n) = decimal_past n
signed_past (negsuc n) = (omega arith, decimal_past (suc n))

pub decimal-short : (k n : ℕ) → n < 10 ^ suc k → length (decimal n) ≤ suc k
decimal-short zero n l = rw (one_digit n (omega arith)) (omega arith)
decimal-short (suc k) n l = by (dec_lt n 10) (decimal-short k (n / 10))
  where
    by : Dec (n < 10) → (n / 10 < 10 ^ suc k → length (decimal (n / 10)) ≤ suc k) → length (decimal n) ≤ suc (suc k)
    by (yes h) less = rw (one_digit n h) (omega arith)
    by (no h) less =
        let q : ℕ = n / 10 in
        let d : ℕ = n % 10 in
        let split : n ≡ q * 10 + d = omega arith in
        rw (split, more-digits q d (omega arith) (omega arith)) (omega (arith, length-append (decimal q) ((48 + d) ∷ []), less (omega arith)))
