-- The pattern of the variables (document 01, "Distances and configurations"). C1 and C2 are called lo and hi here and passed along.
use Rattle.std.specs.Prelude.{Bool, false, not, cond, ◌&&◌, ◌||◌, List, [], ◌∷◌, map, ℕ, suc, ℤ, ◌-ℤ◌}
use Rattle.std.specs.Int.Signed.{lt_z}
use Rattle.model.specs.Inner.Integers.{up}

-- what the pattern says of one variable: its value from lo to hi; beyond, its rank
pub data Mark : Type 0 where
  inside : ℤ → Mark
  above below : ℕ → Mark

abbrev pub equal : ℤ → ℤ → Bool
equal x y = not (lt_z x y) && not (lt_z y x)

unfoldable pub among : ℤ → List ℤ → Bool
among x [] = false
among x (y ∷ ys) = equal x y || among x ys

-- how many different values pass a test
unfoldable pub different : (ℤ → Bool) → List ℤ → ℕ
different passes [] = 0
different passes (x ∷ xs) = cond (passes x && not (among x xs)) (suc (different passes xs)) (different passes xs)

-- the rank of x among the values beyond an edge, counted from 1 at the nearest, equal values sharing a rank;
-- `nearer y z` says that y is nearer to the edge than z
abbrev pub rank : (ℤ → ℤ → Bool) → ℤ → List ℤ → ℤ → ℕ
rank nearer edge values x = different (λ y. nearer edge y && not (nearer x y)) values

unfoldable pub mark : (lo hi : ℤ) → List ℤ → ℤ → Mark
mark lo hi values x =
    cond (lt_z hi x) (above (rank lt_z hi values x)) (cond (lt_z x lo) (below (rank (λ y z. lt_z z y) lo values x)) (inside x))

unfoldable pub pattern : (lo hi : ℤ) → List ℤ → List Mark
pattern lo hi values = map (mark lo hi values) values

-- w: how many whole numbers there are from lo to hi, lo being at most hi
unfoldable pub width_of : (lo hi : ℤ) → ℕ
width_of lo hi = suc (up (hi -ℤ lo))
