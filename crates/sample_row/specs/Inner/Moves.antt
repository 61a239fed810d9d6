-- Numbers moved one outward, away from those between C1 and C2: upward, or downward.
use Rattle.std.specs.Prelude.{Bool, cond, ℤ, pos, negsuc, ◌+ℤ◌, ◌-ℤ◌, T}
use Rattle.std.specs.Int.Signed.{lt_z, le_z}
use Rattle.sample_row.specs.declared.Direction.{Direction}
use Rattle.sample_row.specs.declared.Direction.TheVariants.{Up, Down}

-- y lies further out than x
abbrev pub further : Direction → ℤ → ℤ → Bool
further Up = lt_z
further Down = λ x y. lt_z y x

-- the next number out
abbrev pub outward : Direction → ℤ → ℤ
outward Up x = x +ℤ pos 1
outward Down x = x -ℤ pos 1

-- what lies further out than m moves, the rest stays
unfoldable pub moved : Direction → (m x : ℤ) → ℤ
moved out m x = cond (further out m x) (outward out x) x

-- the last number from lo to hi
abbrev pub edge : Direction → (lo hi : ℤ) → ℤ
edge Up lo hi = hi
edge Down lo hi = lo

-- from -2147483647 to 2147483646: both neighbours have 32 bits
pub record Movable (x : ℤ) : Type 0 where
  pub low : T (le_z (negsuc 2147483646) x)
  pub high : T (le_z x (pos 2147483646))
