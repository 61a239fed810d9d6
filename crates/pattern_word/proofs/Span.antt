-- Values of a search against whole numbers: x stands for lo less `low` and x more, so that `low` stands for lo and `high w` for hi. Tests on the ones
-- are tests on the others, and trial records are what lies near lo to hi.
use mathlib.Core.Path.{◌≡◌, refl, sym, ap, ◌∙◌}
use mathlib.Core.Bool.{not, ◌&&◌}
use Prim.Native.Nat.{ℕ, suc, ◌+◌, ◌-◌, ◌<◌, ◌≤◌}
use native.Mathlib.Omega.{arith}
use lib.IntN.{ℤ, pos, negsuc, ◌+ℤ◌, ◌-ℤ◌}
use lib.Signed.{lt_z, le_z}
use lib.Dec.{T, leb, ltb, eqb, ltb→lt, lt→ltb, nltb→le, leb→le, le→leb, eqb→eq, not_T}
use borrow.Author.Tests.{eq-eqb}
use Rattle.model.specs.Pattern.{width_of}
use Rattle.model.specs.Sample.{Near}
use Rattle.model.proofs.Integers.{zarith, add_is, same_test, true_in, and_in, and_out}
use Rattle.model.proofs.Side.{near_in}
use Rattle.model.specs.Inner.Integers.{up, dn, Inside}
use Rattle.pattern_word.specs.Inner.Pattern.{max_width, Width, low, high}
use Rattle.constants.specs.Inner.Constants.{offset}
use Rattle.constants.proofs.Offsets.{less-is, offset-is}
use Rattle.pattern_word.specs.Inner.Span.{Trial, Span, real}

pub real-is : (lo : ℤ) (x : ℕ) → up (real lo x) + (dn lo + 16) ≡ up lo + x + dn (real lo x)
real-is lo x = omega (arith, add_is lo (negsuc 15), add_is (lo +ℤ negsuc 15) (pos x))

-- ---- offsets
pub real-offset : (c lo : ℤ) → T (le_z lo c) → real lo (low + offset c lo) ≡ c
real-offset c lo h = omega (zarith, real-is lo (low + offset c lo), offset-is c lo h)

pub span_of_lem : (lo hi : ℤ) → Inside lo hi (pos 0) → offset hi lo < max_width → Span lo hi (width_of lo hi)
unfolding width_of offset
span_of_lem lo hi z h = record {
  width = record { some = omega arith; few = omega arith };
  zero = z;
  edge = let k : T (le_z lo hi) = omega zarith in omega (arith, offset-is hi lo k);
}

-- the span from 0 on, for what depends on w alone
pub span-from-zero : (w : ℕ) → Width w → Span (pos 0) (pos (w - 1)) w
span-from-zero w h = record { width = h; zero = record { low = tt; high = omega zarith }; edge = let k = h.some in omega arith }

-- ---- tests on naturals
pub not_lt : (x y : ℕ) → not (ltb x y) ≡ leb y x
not_lt x y =
    same_test (not (ltb x y)) (leb y x) (λ t. le→leb y x (nltb→le x y t)) (λ t. not_T (ltb x y) (λ s. omega (arith, leb→le y x t, ltb→lt x y s)))

pub lt_le : (x y : ℕ) → ltb x y ≡ leb (suc x) y
lt_le x y =
    same_test (ltb x y) (leb (suc x) y) (λ t. le→leb (suc x) y (omega (arith, ltb→lt x y t))) (λ t. lt→ltb x y (omega (arith, leb→le (suc x) y t)))

pub equal_test : (x y : ℕ) → not (ltb x y) && not (ltb y x) ≡ eqb x y
equal_test x y = same_test (not (ltb x y) && not (ltb y x)) (eqb x y)
    (λ t. let (p, q) = and_in (not (ltb x y)) (not (ltb y x)) t in true_in (eqb x y) (eq-eqb x y (omega (arith, nltb→le x y p, nltb→le y x q))))
    (λ t. and_out (not (ltb x y)) (not (ltb y x)) (not_T (ltb x y) (λ s. omega (arith, ltb→lt x y s, eqb→eq x y t)))
    (not_T (ltb y x) (λ s. omega (arith, ltb→lt y x s, eqb→eq x y t))))

pub lt_real : (lo : ℤ) (x y : ℕ) → lt_z (real lo x) (real lo y) ≡ ltb x y
lt_real lo x y = same_test (lt_z (real lo x) (real lo y)) (ltb x y)
    (λ t. lt→ltb x y (omega (zarith, real-is lo x, real-is lo y)))
    (λ t. omega (zarith, real-is lo x, real-is lo y, ltb→lt x y t))

module _ {lo hi : ℤ} {w : ℕ} (s : Span lo hi w) where
  pub low-real : real lo low ≡ lo
  low-real = omega (zarith, real-is lo low)

  pub high-real : real lo (high w) ≡ hi
  high-real = omega (zarith, real-is lo (high w), s.edge)

  pub above-real : (y : ℕ) → lt_z hi (real lo y) ≡ ltb (high w) y
  above-real y = ap (λ (z : ℤ). lt_z z (real lo y)) (sym high-real) ∙ lt_real lo (high w) y

  pub below-real : (y : ℕ) → lt_z (real lo y) lo ≡ ltb y low
  below-real y = ap (lt_z (real lo y)) (sym low-real) ∙ lt_real lo y low

  pub inside-real : (c : ℤ) → Inside lo hi c → (offset c lo < w) × (real lo (low + offset c lo) ≡ c)
  inside-real c k = let h = k.low in let g = k.high in (omega (zarith, offset-is c lo h, s.edge), real-offset c lo h)

  -- ---- trial records
  pub near_trial : (u : ℤ) → Near lo hi 9 u → (y : ℕ) × (u ≡ real lo y) × Trial w y
  near_trial u n = let (a, b) = near_in n in go (u -ℤ (lo +ℤ negsuc 15)) refl a b
    where
      base : ℤ
      base = lo +ℤ negsuc 15

      go : (q : ℤ) → u -ℤ base ≡ q → up lo + dn u ≤ up u + dn lo + 9 → up u + dn hi ≤ up hi + dn u + 9 → (y : ℕ) × (u ≡ real lo y) × Trial w y
      go (pos m) e a b = (
        m,
        omega (zarith, less-is u base, ap up e, ap dn e, add_is base (pos m)),
        record {
          first = omega (arith, less-is u base, ap up e, ap dn e, add_is lo (negsuc 15));
          last = omega
              (arith, less-is u base, ap up e, ap dn e, add_is lo (negsuc 15), s.edge);
        },
      )
      go (negsuc m) e a b = absurd (omega (arith, less-is u base, ap up e, ap dn e, add_is lo (negsuc 15)))
