-- The distance to the wanted edges is one number, and it is not both a number and none.
use mathlib.Core.Path.{◌≡◌}
use Prim.Native.Nat.{ℕ}
use native.Mathlib.Omega.{arith}
use Rattle.graph.specs.Inner.Graph.{Graph, ExitDistance}

module _ {A L : Type 0} {G : Graph A L} {Wanted : A → L → Type 0} where
  pub exit-distance_unique : (d e : ℕ) → ExitDistance G Wanted d → ExitDistance G Wanted e → d ≡ e
  exit-distance_unique d e x y = omega (arith, x.least e y.exit, y.least d x.exit)
