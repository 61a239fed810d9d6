-- How many patterns there are (document 02, T-01). C1 and C2 are called lo and hi here.
use Rattle.std.specs.Prelude.{◌≡◌, List, ℕ, zero, suc, ◌+◌, ◌*◌, ℤ, length}
use Rattle.model.specs.Pattern.{Mark, pattern}

-- marks are the pattern of some v values
pub record IsPattern (lo hi : ℤ) (v : ℕ) (marks : List Mark) : Type 0 where
  pub values : List ℤ
  pub size : length values ≡ v
  pub is : pattern lo hi values ≡ marks

-- the number of patterns of v variables, w whole numbers lying from lo to hi; no flow has more than four variables
unfoldable pub patterns_of : (v w : ℕ) → ℕ
patterns_of zero w = 1
patterns_of (suc zero) w = w + 2
patterns_of (suc (suc zero)) w = w * w + 4 * w + 8
patterns_of (suc (suc (suc zero))) w = w * w * w + 6 * (w * w) + 24 * w + 44
patterns_of (suc (suc (suc (suc zero)))) w = w * w * w * w + 8 * (w * w * w) + 48 * (w * w) + 176 * w + 308
patterns_of (suc (suc (suc (suc (suc v))))) w = 0
