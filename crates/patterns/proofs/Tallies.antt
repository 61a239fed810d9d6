-- The shapes of v variables are listed: the rows of signed ranks, each from -4 to 4, that are their own. How many of them have how many zeros is
-- computed, for up to four variables.
use mathlib.Core.Path.{◌≡◌, refl}
use mathlib.Core.List.{List, [], ◌∷◌}
use Prim.Native.Nat.{ℕ, zero, suc}
use lib.IntN.{ℤ, pos}
use Rattle.model.specs.Pattern.{among, different, mark, pattern}
use Rattle.outside.specs.Inner.Rows.{rows, keep, led, bind}
use Rattle.outside.specs.Outside.{ranks_of, same, is_own, eight}
use Rattle.patterns.proofs.Filling.{zeros_in}

-- the signed ranks of up to four values
unfoldable pub nine : List ℤ
nine = pos 0 ∷ eight

unfoldable pub shapes : ℕ → List (List ℤ)
shapes v = keep is_own (rows nine v)

-- one more of degree k
unfoldable pub bump : ℕ → List ℕ → List ℕ
bump zero [] = 1 ∷ []
bump zero (c ∷ cs) = suc c ∷ cs
bump (suc k) [] = 0 ∷ bump k []
bump (suc k) (c ∷ cs) = c ∷ bump k cs

-- how many rows have no zero, one zero, and on
unfoldable pub tally : List (List ℤ) → List ℕ
tally [] = []
tally (r ∷ rs) = bump (zeros_in r) (tally rs)

-- ---- the coefficients
pub tallies : (tally (shapes 0) ≡ 1 ∷ []) × (tally (shapes 1) ≡ 2 ∷ 1 ∷ []) × (tally (shapes 2) ≡ 8 ∷ 4 ∷ 1 ∷ [])
    × (tally (shapes 3) ≡ 44 ∷ 24 ∷ 6 ∷ 1 ∷ []) × (tally (shapes 4) ≡ 308 ∷ 176 ∷ 48 ∷ 8 ∷ 1 ∷ [])
unfolding tally bump zeros_in shapes is_own same nine eight keep rows led bind ranks_of pattern mark different among
tallies = (refl, refl, refl, refl, refl)
