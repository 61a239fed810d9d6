-- The shapes of v variables are the signed ranks of their patterns, 0 standing for every number inside. How many shapes have how many zeros gives
-- the coefficients of a polynomial in the number of numbers inside.
use mathlib.Core.Path.{◌≡◌, ap}
use mathlib.Core.List.{List, [], ◌∷◌}
use Prim.Native.Nat.{ℕ, zero, suc, ◌+◌, ◌*◌, ◌^◌, ◌≤◌}
use native.Mathlib.Nat.{add-mul, mul_assoc, pow-zero, pow-suc}
use native.Mathlib.Omega.{arith}
use Rattle.graph.specs.Lists.{Once}
use Rattle.model.specs.Pattern.{among}
use Rattle.outside.specs.Outside.{eight}
use Rattle.outside.proofs.Listed.{distinct, own_once}
use Rattle.patterns.specs.Patterns.{patterns_of}
unfoldable pub use Rattle.patterns.proofs.Tallies.{nine, shapes, bump, tally}
use Rattle.patterns.proofs.Tallies.{tallies}

pub shapes_once : (v : ℕ) → Once (shapes v)
unfolding shapes nine eight distinct among
shapes_once v = own_once nine v tt

-- ---- polynomials, by their coefficients from degree 0 on
unfoldable pub poly : ℕ → List ℕ → ℕ
poly w [] = 0
poly w (c ∷ cs) = c + poly w cs * w

pub bump_is : (w k : ℕ) (cs : List ℕ) → poly w (bump k cs) ≡ w ^ k + poly w cs
unfolding bump poly
bump_is w zero [] = omega (arith, pow-zero w)
bump_is w zero (c ∷ cs) = omega (arith, pow-zero w)
bump_is w (suc k) [] = omega (arith, ap (λ t. t * w) (bump_is w k []), add-mul (w ^ k) 0 w, pow-suc w k)
bump_is w (suc k) (c ∷ cs) = omega (arith, ap (λ t. t * w) (bump_is w k cs), add-mul (w ^ k) (poly w cs) w, pow-suc w k)

-- ---- the coefficients
pub shapes_tally : (w v : ℕ) → v ≤ 4 → poly w (tally (shapes v)) ≡ patterns_of v w
unfolding poly patterns_of
shapes_tally w zero h = rw tallies.0 (omega arith)
shapes_tally w (suc zero) h = rw tallies.1 (simp (add-mul, mul_assoc) (omega arith))
shapes_tally w (suc (suc zero)) h = rw tallies.2 (simp (add-mul, mul_assoc) (omega arith))
shapes_tally w (suc (suc (suc zero))) h = rw tallies.3 (simp (add-mul, mul_assoc) (omega arith))
shapes_tally w (suc (suc (suc (suc zero)))) h = rw tallies.4 (simp (add-mul, mul_assoc) (omega arith))
shapes_tally w (suc (suc (suc (suc (suc v))))) h = absurd (omega arith)
