-- What a row does not keep changes no answer: a number past what a row keeps is past every range, and a number within its range is kept.
-- So the tests of a row are those of the instruction, and an instruction that passes them all is kept whole.
use mathlib.Core.Path.{◌≡◌, refl, sym, ap, ap₂, ◌∙◌}
use mathlib.Core.Bool.{Bool, true, false, cond, ◌&&◌, ◌||◌, false≢true}
use mathlib.Core.List.{List, [], ◌∷◌, map}
use Prim.Native.Nat.{ℕ, suc, ◌<◌}
use native.Mathlib.Omega.{arith}
use borrow.Author.Tests.{ltb-true, le-ltb, lt-leb}
use lib.Dec.{T, leb, ltb}
use Rattle.std.specs.Prelude.{Option, None, Some}
use Rattle.model.proofs.Integers.{zarith, true_in}
use lib.IntN.{ℤ, pos, negsuc}
use lib.Signed.{le_z}
use lib.ListN.{get_or-map}
use Rattle.model.specs.Language.{Instruction, Field, fields}
use Rattle.text.proofs.Cap.{test_cut}
use Rattle.flow.specs.Words.{sorts, may_minus, count, at, built, sort, number}
use Rattle.flow.specs.Inner.Reader.{field}
use Rattle.flow.specs.Read.{all, bounds, targets, between, in_range, is_named}
use Rattle.flow.specs.Code.{kind, numbers, row, row_of}
use Rattle.flow.specs.Inner.Reader.{small, bounded, clamped, HeadFits}
use Rattle.flow.proofs.RowLaws.{placed}
use Rattle.flow.specs.declared.Kind.{Kind}
use Rattle.flow.specs.declared.Sort.{Sort}
use Rattle.flow.specs.declared.Head.{Head}
use Rattle.flow.proofs.Tests.{and_split}
use Rattle.flow.proofs.SortLaws.{every_sort, tried_sort, sort-field, number-field}
use Rattle.flow.proofs.RowLaws.{fields-built, built-row, parts-built}
use Rattle.flow.specs.Inner.Rows.{instruction_of}

and_false : (b : Bool) → (b && false) ≡ false
and_false true = refl
and_false false = refl

-- ---- one number
-- a count past every range stays past it
past : (n hi : ℕ) → hi < n → (leb 1 n && leb n hi) ≡ false
past n hi l = rw (lt-leb n hi l) (and_false (leb 1 n))

-- the number of a line, and the counts of line 1, in a byte
pub small_range : (hi : ℕ) → hi < 255 → (n : ℕ) → (leb 1 (small n) && leb (small n) hi) ≡ (leb 1 n && leb n hi)
small_range hi l n = test_cut (λ m. leb 1 m && leb m hi) false 255 n (λ m k. past m hi (omega arith))

-- a number of at most four digits, and a range of such numbers
abbrev pub FourDigits : ℤ → Type 0
FourDigits z = T (le_z (negsuc 9998) z) × T (le_z z (pos 9999))

abbrev FourDigitRange : Option (ℤ × ℤ) → Type 0
FourDigitRange None = Unit {0}
FourDigitRange (Some (lo, hi)) = T (le_z (negsuc 9998) lo) × T (le_z hi (pos 9999))

false_of : (b : Bool) → (T b → ⊥) → b ≡ false
false_of true f = absurd (f tt)
false_of false f = refl

between-kept : (r : Option (ℤ × ℤ)) → FourDigitRange r → (z : ℤ) → between r (bounded z) ≡ between r z
unfolding bounded
between-kept None t z = refl
between-kept (Some (lo, hi)) (low, high) (pos n) = go (ltb 100000 n) refl
  where
    go : (b : Bool) → ltb 100000 n ≡ b → between (Some (lo, hi)) (cond b (pos 100000) (pos n)) ≡ between (Some (lo, hi)) (pos n)
    go true h =
        let past : le_z (pos 100000) hi ≡ false = false_of (le_z (pos 100000) hi) (λ t. omega (zarith, high, t)) in
        let more = ltb-true 100000 n h in
        let past-too : le_z (pos n) hi ≡ false = false_of (le_z (pos n) hi) (λ t. omega (zarith, high, more, t)) in
        rw (past, past-too) (and_false (le_z lo (pos 100000)) ∙ sym (and_false (le_z lo (pos n))))
    go false h = refl
between-kept (Some (lo, hi)) (low, high) (negsuc n) = go (ltb 99999 n) refl
  where
    go : (b : Bool) → ltb 99999 n ≡ b → between (Some (lo, hi)) (cond b (negsuc 99999) (negsuc n)) ≡ between (Some (lo, hi)) (negsuc n)
    go true h =
        let past : le_z lo (negsuc 99999) ≡ false = false_of (le_z lo (negsuc 99999)) (λ t. omega (zarith, low, t)) in
        let more = ltb-true 99999 n h in
        let past-too : le_z lo (negsuc n) ≡ false = false_of (le_z lo (negsuc n)) (λ t. omega (zarith, low, more, t)) in
        rw (past, past-too)
    go false h = refl

four-digits : (lo hi : ℤ) → FourDigitRange (Some (lo, hi)) → (z : ℤ) → between (Some (lo, hi)) z ≡ true → FourDigits z
four-digits lo hi (low, high) z e =
    let (a, b) = and_split (le_z lo z) (le_z z hi) e in
    let least = true_in (le_z lo z) a in
    let most = true_in (le_z z hi) b in
    (omega (zarith, low, least), omega (zarith, high, most))

-- such a number is kept as it is
digits-kept : (z : ℤ) → FourDigits z → bounded z ≡ z
unfolding bounded
digits-kept (pos n) (low, high) = rw (le-ltb 100000 n (omega (zarith, high)))
digits-kept (negsuc n) (low, high) = rw (le-ltb 99999 n (omega (zarith, low)))

-- the number in a field is kept as the number is
count-bounded : (z : ℤ) → pos (count (bounded z)) ≡ bounded (pos (count z))
unfolding bounded
count-bounded (pos n) = go (ltb 100000 n)
  where
    go : (b : Bool) → pos (count (cond b (pos 100000) (pos n))) ≡ cond b (pos 100000) (pos n)
    go true = refl
    go false = refl
count-bounded (negsuc n) = go (ltb 99999 n)
  where
    go : (b : Bool) → pos (count (cond b (negsuc 99999) (negsuc n))) ≡ pos 0
    go true = refl
    go false = refl

number-bounded : (s : Sort) (z : ℤ) → number (field s (bounded z)) ≡ bounded (number (field s z))
number-bounded s z = number-field (bounded z) s ∙ by (may_minus s) ∙ ap bounded (sym (number-field z s))
  where
    by : (b : Bool) → cond b (bounded z) (pos (count (bounded z))) ≡ bounded (cond b z (pos (count z)))
    by true = refl
    by false = count-bounded z

-- one law for every table of ranges
range_kept : (range : Sort → Option (ℤ × ℤ)) → ((s : Sort) → FourDigitRange (range s)) → (s : Sort) (z : ℤ)
    → between (range (sort (field s (bounded z)))) (number (field s (bounded z))) ≡ between (range (sort (field s z))) (number (field s z))
range_kept range few s z =
    rw (sort-field (bounded z) s, sort-field z s, number-bounded s z) (between-kept (range s) (few s) (number (field s z)))

-- ---- the two tables: a row keeps all their ranges, and every sort has a range in one of them
module _ (h : Head) (f : HeadFits h) (n : ℕ) (l : n < 255) where
  few-digits : (s : Sort) → FourDigitRange (bounds h s) × FourDigitRange (targets n s)
  few-digits =
      every_sort (λ s. FourDigitRange (bounds h s) × FourDigitRange (targets n s)) (
        (tt, (tt, omega (zarith, l))),
        (
          ((tt, omega (zarith, f.tapes)), tt),
          (
            ((tt, omega (zarith, f.outputs)), tt),
            (
              ((tt, omega (zarith, f.variables)), tt),
              (((tt, tt), tt), tt),
            ),
          ),
        ),
      )

  in_range-kept : (s : Sort) (z : ℤ) → in_range h (field s (bounded z)) ≡ in_range h (field s z)
  in_range-kept = range_kept (bounds h) (λ s. (few-digits s).0)

  is_named-kept : (s : Sort) (z : ℤ) → is_named n (field s (bounded z)) ≡ is_named n (field s z)
  is_named-kept = range_kept (targets n) (λ s. (few-digits s).1)

  pub field-digits : (x : Field) → in_range h x ≡ true → is_named n x ≡ true → FourDigits (number x)
  field-digits x = by (bounds h (sort x)) (targets n (sort x)) (few-digits (sort x)) (ranged (sort x))
    where
      has : Option (ℤ × ℤ) → Bool
      has None = false
      has (Some r) = true

      ranged : (s : Sort) → (has (bounds h s) || has (targets n s)) ≡ true
      ranged = tried_sort (λ s. has (bounds h s) || has (targets n s)) (λ s. true) refl

      by : (r s : Option (ℤ × ℤ)) → FourDigitRange r × FourDigitRange s → (has r || has s) ≡ true → between r (number x) ≡ true → between s (number x) ≡ true → FourDigits (number x)
      by (Some (lo, hi)) s t e p q = four-digits lo hi t.0 (number x) p
      by None (Some (lo, hi)) t e p q = four-digits lo hi t.1 (number x) q
      by None None t e p q = absurd (false≢true e)

  fields-kept : (fs : List Field) → all (in_range h) fs ≡ true → all (is_named n) fs ≡ true → map bounded (map number fs) ≡ map number fs
  unfolding all
  fields-kept [] r s = refl
  fields-kept (x ∷ fs) r s =
      let (r₀, r₁) = and_split (in_range h x) (all (in_range h) fs) r in
      let (s₀, s₁) = and_split (is_named n x) (all (is_named n) fs) s in
      ap₂ ◌∷◌ (digits-kept (number x) (field-digits x r₀ s₀)) (fields-kept fs r₁ s₁)

  -- an instruction that passes all tests is kept whole
  pub clamp_kept : (x : Instruction) → all (in_range h) (fields x) ≡ true → all (is_named n) (fields x) ≡ true → clamped x ≡ row_of x
  clamp_kept x r s = ap (row (kind x)) (fields-kept (fields x) r s)

-- ---- the tests of a row are those of the instruction
module _ (test : Field → Bool) (same : (s : Sort) (z : ℤ) → test (field s (bounded z)) ≡ test (field s z)) where
  placed_kept : (ss : List Sort) (zs ws : List ℤ) → ((j : ℕ) → at ws j ≡ bounded (at zs j)) → (j : ℕ) → all test (placed ss ws j) ≡ all test (placed ss zs j)
  unfolding all
  placed_kept [] zs ws h j = refl
  placed_kept (s ∷ ss) zs ws h j = ap₂ ◌&&◌ (ap (λ (z : ℤ). test (field s z)) (h j) ∙ same s (at zs j)) (placed_kept ss zs ws h (suc j))

  row_kept : (k : Kind) (zs : List ℤ) → all test (fields (instruction_of (row k (map bounded zs)))) ≡ all test (fields (built k zs))
  unfolding bounded
  row_kept k zs =
      rw (built-row (map bounded zs) k, fields-built (map bounded zs) k, fields-built zs k)
      (placed_kept (sorts k) zs (map bounded zs) (λ j. get_or-map bounded zs j (pos 0)) 0)

pub in_range-row : (h : Head) → HeadFits h → (k : Kind) (zs : List ℤ)
    → all (in_range h) (fields (instruction_of (row k (map bounded zs)))) ≡ all (in_range h) (fields (built k zs))
in_range-row h f = row_kept (in_range h) (in_range-kept h f 0 (omega arith))

pub is_named_clamp : (h : Head) → HeadFits h → (n : ℕ) → n < 255 → (x : Instruction)
    → all (is_named n) (fields (instruction_of (clamped x))) ≡ all (is_named n) (fields x)
is_named_clamp h f n l x =
    row_kept (is_named n) (is_named-kept h f n l) (kind x) (numbers x) ∙ ap (λ (y : Instruction). all (is_named n) (fields y)) (parts-built x)
