-- The bound computed with numbers cut off past the most cells: products and sums may be cut off at every stage, since a factor 0 stays 0 and
-- whatever else lies past the most cells stays there. Cutting off changes no answer.
use mathlib.Core.Path.{◌≡◌, refl, sym, ap, ◌∙◌}
use mathlib.Core.Bool.{Bool, true, false, cond}
use Prim.Native.Nat.{ℕ, zero, suc, ◌+◌, ◌*◌, ◌^◌, ◌<◌}
use native.Mathlib.Nat.{mul-le-mul_right}
use native.Mathlib.Decide.{dec_lt}
use native.Mathlib.Omega.{arith}
use lib.Dec.{ltb, ltb→lt, lt→ltb}
use borrow.Author.Tests.{ltb-false}
use Rattle.model.proofs.Integers.{same_test}
use Rattle.cells.specs.Cells.{most_cells}
use Rattle.patterns.specs.Patterns.{patterns_of}
use Rattle.flow_bound.specs.Bound.{bound_answer}
use Rattle.flow_bound.specs.Inner.Capped.{cells_cap, capped_cells}
use Rattle.std.specs.Prelude.{Some, None}

-- a product is cut off alike if one factor is
capped_left : (a b : ℕ) → capped_cells (capped_cells a * b) ≡ capped_cells (a * b)
capped_left a zero = omega arith
capped_left a (suc b) = go (dec_lt most_cells a)
  where
    go : Dec (most_cells < a) → capped_cells (capped_cells a * suc b) ≡ capped_cells (a * suc b)
    go (yes h) =
        let e : capped_cells a ≡ cells_cap = omega arith in
        rw e (omega (arith, mul-le-mul_right {m = cells_cap} {n = a} (suc b) h))
    go (no h) = let e : capped_cells a ≡ a = omega arith in rw e

pub capped_product : (a b : ℕ) → capped_cells (a * b) ≡ capped_cells (capped_cells a * capped_cells b)
capped_product a b = omega (arith, capped_left a b, capped_left b (capped_cells a))

-- ---- no answer changes
capped-over : (n : ℕ) → ltb most_cells (capped_cells n) ≡ ltb most_cells n
capped-over n =
    same_test (ltb most_cells (capped_cells n)) (ltb most_cells n)
    (λ h. lt→ltb most_cells n (omega (arith, ltb→lt most_cells (capped_cells n) h)))
    (λ h. lt→ltb most_cells (capped_cells n) (omega (arith, ltb→lt most_cells n h)))

capped-within : (n : ℕ) → ltb most_cells n ≡ false → capped_cells n ≡ n
capped-within n h = omega (arith, ltb-false most_cells n h)

pub answer-capped : (n : ℕ) → bound_answer (capped_cells n) ≡ bound_answer n
unfolding bound_answer
answer-capped n = rw (capped-over n) (by (ltb most_cells n) refl)
  where
    by : (b : Bool) → ltb most_cells n ≡ b → cond b None (Some (capped_cells n)) ≡ cond b None (Some n)
    by true h = refl
    by false h = ap Some (capped-within n h)

-- 65,536 itself is a number, one more is over
pub bound_border : (bound_answer 65536 ≡ Some 65536) × (bound_answer 65537 ≡ None)
unfolding bound_answer
bound_border = (refl, refl)

-- ---- the number of patterns, one factor w at a time
pub capped-step : (a x w c : ℕ) → x ≡ capped_cells a → capped_cells (x * w + c) ≡ capped_cells (a * w + c)
capped-step a x w c e = rw e (omega (arith, capped_left a w))

module _ (v w : ℕ) where
  pub last_1 : (r : ℕ) → v ≡ 1 → r ≡ capped_cells (1 * w + 2) → r ≡ capped_cells (patterns_of v w)
  unfolding patterns_of
  last_1 r h e = rw h (omega arith)

  pub last_2 : (a r : ℕ) → v ≡ 2 → a ≡ capped_cells (1 * w + 4) → r ≡ capped_cells (a * w + 8) → r ≡ capped_cells (patterns_of v w)
  unfolding patterns_of
  last_2 a r h p e = rw h (omega (arith, capped-step (1 * w + 4) a w 8 p))

  pub last_3 : (a b r : ℕ) → v ≡ 3 → a ≡ capped_cells (1 * w + 6) → b ≡ capped_cells (a * w + 24) → r ≡ capped_cells (b * w + 44) → r ≡ capped_cells (patterns_of v w)
  unfolding patterns_of
  last_3 a b r h p q e = rw h (omega (arith, capped-step ((1 * w + 6) * w + 24) b w 44 (q ∙ capped-step (1 * w + 6) a w 24 p)))

  pub last_4 : (a b c r : ℕ) → v ≡ 4 → a ≡ capped_cells (1 * w + 8) → b ≡ capped_cells (a * w + 48) → c ≡ capped_cells (b * w + 176) → r ≡ capped_cells (c * w + 308)
      → r ≡ capped_cells (patterns_of v w)
  unfolding patterns_of
  last_4 a b c r h p q o e =
      rw h (omega (
        arith,
        capped-step (((1 * w + 8) * w + 48) * w + 176) c w 308
            (o ∙ capped-step ((1 * w + 8) * w + 48) b w 176 (q ∙ capped-step (1 * w + 8) a w 48 p)),
      ))

-- ---- the whole bound
-- i instructions times e sets of tapes, times the number x of patterns, which is cut off to p
pub answer_product : (i t e p m n x : ℕ) → e ≡ 2 ^ t → p ≡ capped_cells x → m ≡ capped_cells (i * e + 0) → n ≡ capped_cells (m * p + 0)
    → bound_answer n ≡ bound_answer (i * (2 ^ t) * x)
answer_product i t e p m n x f a b c =
    let same : i * e + 0 ≡ i * e = omega arith in
    let whole : n ≡ capped_cells (i * (2 ^ t) * x) = rw (sym f, c, b, a, same) (omega (arith, capped_product (i * e) x)) in
    ap bound_answer whole ∙ answer-capped (i * (2 ^ t) * x)
