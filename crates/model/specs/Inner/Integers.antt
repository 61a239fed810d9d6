-- Whole numbers as differences: x is `up x` less `dn x`; and numbers from lo to hi.
use Rattle.std.specs.Prelude.{ℕ, suc, ℤ, pos, negsuc, T}
use Rattle.std.specs.Int.Signed.{le_z}

abbrev pub up : ℤ → ℕ
up (pos n) = n
up (negsuc n) = 0

abbrev pub dn : ℤ → ℕ
dn (pos n) = 0
dn (negsuc n) = suc n

-- a number from lo to hi
pub record Inside (lo hi c : ℤ) : Type 0 where
  pub low : T (le_z lo c)
  pub high : T (le_z c hi)
