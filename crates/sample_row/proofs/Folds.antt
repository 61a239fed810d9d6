-- The loop over the variables, as a fold: where no variable is left, the furthest is the furthest so far.
use mathlib.Core.Path.{◌≡◌, refl}
use mathlib.Core.Bool.{Bool}
use mathlib.Core.List.{List, [], ◌∷◌}
use Prim.Native.Nat.{min}
use native.Mathlib.Omega.{arith}
use lib.IntN.{ℤ}
use lib.ListN.{length}
use Rattle.model.specs.Inner.Runs.{furthest}

pub furthest_short : (less : ℤ → ℤ → Bool) (m x : ℤ) (v w : List ℤ) → min (length v) (length w) ≡ 0 → furthest less m x v w ≡ m
furthest_short less m x [] w h = refl
furthest_short less m x (a ∷ v) [] h = refl
furthest_short less m x (a ∷ v) (b ∷ w) h = absurd (omega arith)
