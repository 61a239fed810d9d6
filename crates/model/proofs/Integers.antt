-- Whole numbers as differences: x is `up x` less `dn x`. An order of whole numbers is then one of naturals, which omega proves:
-- `omega zarith` decides what is linear in lt_z, le_z and equality. Bounds are said of differences, never of `up x` or `dn x` alone.
use mathlib.Core.Path.{◌≡◌, refl, sym, ap, subst}
use mathlib.Core.Bool.{Bool, true, false, not, cond, ◌&&◌, ◌||◌}
use mathlib.Core.Logic.{◌⊎◌, inl, inr}
use Prim.Native.Nat.{ℕ, zero, suc, ◌+◌, ◌-◌, ◌<◌, ◌≤◌}
use native.Mathlib.Omega.{arith}
use lib.IntN.{ℤ, pos, negsuc, suc_ℤ, pred_ℤ, ◌+ℤ◌, sub_ℕ, neg_ℤ}
use lib.Signed.{lt_z, le_z}
use lib.Dec.{T, ltb, ltb→lt, lt→ltb, leb→le, le→leb, nltb→le, not_T}
use Rattle.model.specs.Inner.Integers.{up, dn}

-- ---- orders
pub lt_in : (x y : ℤ) → T (lt_z x y) → up x + dn y < up y + dn x
lt_in (pos a) (pos b) h = omega (arith, ltb→lt a b h)
lt_in (pos a) (negsuc b) h = absurd h
lt_in (negsuc a) (pos b) h = omega arith
lt_in (negsuc a) (negsuc b) h = omega (arith, ltb→lt b a h)

pub lt_out : (x y : ℤ) → up x + dn y < up y + dn x → T (lt_z x y)
lt_out (pos a) (pos b) h = lt→ltb a b (omega arith)
lt_out (pos a) (negsuc b) h = omega arith
lt_out (negsuc a) (pos b) h = tt
lt_out (negsuc a) (negsuc b) h = lt→ltb b a (omega arith)

pub le_in : (x y : ℤ) → T (le_z x y) → up x + dn y ≤ up y + dn x
le_in (pos a) (pos b) h = omega (arith, leb→le a b h)
le_in (pos a) (negsuc b) h = absurd h
le_in (negsuc a) (pos b) h = omega arith
le_in (negsuc a) (negsuc b) h = omega (arith, leb→le b a h)

pub le_out : (x y : ℤ) → up x + dn y ≤ up y + dn x → T (le_z x y)
le_out (pos a) (pos b) h = le→leb a b (omega arith)
le_out (pos a) (negsuc b) h = omega arith
le_out (negsuc a) (pos b) h = tt
le_out (negsuc a) (negsuc b) h = le→leb b a (omega arith)

pub nlt_in : (x y : ℤ) → T (not (lt_z x y)) → up y + dn x ≤ up x + dn y
nlt_in (pos a) (pos b) h = omega (arith, nltb→le a b h)
nlt_in (pos a) (negsuc b) h = omega arith
nlt_in (negsuc a) (pos b) h = absurd h
nlt_in (negsuc a) (negsuc b) h = omega (arith, nltb→le b a h)

pub nlt_out : (x y : ℤ) → up y + dn x ≤ up x + dn y → T (not (lt_z x y))
nlt_out x y h = not_T (lt_z x y) (λ t. omega (arith, lt_in x y t))

pub eq_in : (x y : ℤ) → x ≡ y → up x + dn y ≡ up y + dn x
eq_in x y h = subst (λ (z : ℤ). up x + dn z ≡ up z + dn x) h refl

pub eq_out : (x y : ℤ) → up x + dn y ≡ up y + dn x → x ≡ y
eq_out (pos a) (pos b) h = ap pos (omega arith)
eq_out (pos a) (negsuc b) h = absurd (omega arith)
eq_out (negsuc a) (pos b) h = absurd (omega arith)
eq_out (negsuc a) (negsuc b) h = ap negsuc (omega arith)

-- ---- tests
pub true_in : (b : Bool) → b ≡ true → T b
true_in b h = subst T (sym h) tt

pub false_in : (b : Bool) → b ≡ false → T (not b)
false_in b h = subst (λ (c : Bool). T (not c)) (sym h) tt

pub true_out : (b : Bool) → T b → b ≡ true
true_out true h = refl
true_out false h = absurd h

pub false_out : (b : Bool) → T (not b) → b ≡ false
false_out true h = absurd h
false_out false h = refl

-- two tests that pass together are the same test
pub same_test : (b c : Bool) → (T b → T c) → (T c → T b) → b ≡ c
same_test true true f g = refl
same_test true false f g = absurd (f tt)
same_test false true f g = absurd (g tt)
same_test false false f g = refl

pub and_in : (a b : Bool) → T (a && b) → T a × T b
and_in true b h = (tt, h)
and_in false b h = absurd h

pub and_out : (a b : Bool) → T a → T b → T (a && b)
and_out true b h k = k
and_out false b h k = absurd h

pub or_in : (a b : Bool) → T (a || b) → T a ⊎ T b
or_in true b h = inl tt
or_in false b h = inr h

pub or_left : (a b : Bool) → T a → T (a || b)
or_left true b h = tt
or_left false b h = absurd h

pub or_right : (a b : Bool) → T b → T (a || b)
or_right true b h = tt
or_right false b h = h

pub lt_true : (x y : ℤ) → lt_z x y ≡ true → up x + dn y < up y + dn x
lt_true x y h = lt_in x y (true_in (lt_z x y) h)

pub lt_false : (x y : ℤ) → lt_z x y ≡ false → up y + dn x ≤ up x + dn y
lt_false x y h = nlt_in x y (false_in (lt_z x y) h)

pub true_lt : (x y : ℤ) → up x + dn y < up y + dn x → lt_z x y ≡ true
true_lt x y h = true_out (lt_z x y) (lt_out x y h)

pub false_lt : (x y : ℤ) → up y + dn x ≤ up x + dn y → lt_z x y ≡ false
false_lt x y h = false_out (lt_z x y) (nlt_out x y h)

-- omega over whole numbers
pub ruleset zarith = (arith, lt_in, lt_out, le_in, le_out, nlt_in, nlt_out, eq_in, eq_out, lt_true, lt_false, true_lt, false_lt)

-- ---- one more, one less, sums, as differences
pub suc_is : (x : ℤ) → up (suc_ℤ x) + dn x ≡ suc (up x + dn (suc_ℤ x))
suc_is (pos n) = omega arith
suc_is (negsuc zero) = refl
suc_is (negsuc (suc n)) = omega arith

pub pred_is : (x : ℤ) → suc (up (pred_ℤ x) + dn x) ≡ up x + dn (pred_ℤ x)
pred_is (pos zero) = refl
pred_is (pos (suc n)) = omega arith
pred_is (negsuc n) = omega arith

sub_is : (a b : ℕ) → up (sub_ℕ a b) + b ≡ a + dn (sub_ℕ a b)
sub_is a b = go (ltb a b) refl
  where
    go : (t : Bool) → ltb a b ≡ t → up (cond t (negsuc (b - suc a)) (pos (a - b))) + b ≡ a + dn (cond t (negsuc (b - suc a)) (pos (a - b)))
    go true h = omega (arith, ltb→lt a b (true_in (ltb a b) h))
    go false h = omega (arith, nltb→le a b (false_in (ltb a b) h))

pub add_is : (x y : ℤ) → up (x +ℤ y) + (dn x + dn y) ≡ (up x + up y) + dn (x +ℤ y)
add_is (pos a) (pos b) = omega arith
add_is (pos a) (negsuc b) = omega (arith, sub_is a (suc b))
add_is (negsuc a) (pos b) = omega (arith, sub_is b (suc a))
add_is (negsuc a) (negsuc b) = omega arith

pub add_pos : (x : ℤ) (n : ℕ) → up (x +ℤ pos n) + dn x ≡ (up x + n) + dn (x +ℤ pos n)
add_pos x n = omega (arith, add_is x (pos n))

pub sub_pos : (x : ℤ) (n : ℕ) → up (x +ℤ neg_ℤ (pos n)) + (dn x + n) ≡ up x + dn (x +ℤ neg_ℤ (pos n))
sub_pos x zero = omega (arith, add_is x (pos 0))
sub_pos x (suc n) = omega (arith, add_is x (negsuc n))
