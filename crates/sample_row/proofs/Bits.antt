-- Every number that is written has 32 bits. A number that may move has both neighbours among them, and what lies near C1 to C2, after as
-- many reads as there may be, may move: C1 and C2 keep to the limits of constants.
use mathlib.Core.List.{List}
use Prim.Native.Nat.{ℕ, ◌≤◌}
use lib.IntN.{ℤ, pos}
use lib.ListN.{get_or}
use Rattle.model.specs.Sample.{Near}
use Rattle.model.proofs.Integers.{zarith}
use Rattle.model.proofs.Lists.{all_get_d, all_weaker}
use Rattle.model.proofs.Side.{near_in, inside-near}
use Rattle.model.specs.Inner.Lists.{All}
use Rattle.model.specs.Inner.Integers.{Inside}
use Rattle.sample_row.specs.Inner.Moves.{Movable}
use Rattle.sample_row.specs.Inner.WalkFits.{Bounded}

pub movable_at : (l : List ℤ) (i : ℕ) → All Movable l → Movable (get_or l i (pos 0))
movable_at l i h = all_get_d Movable l i (pos 0) h (record { low = tt; high = tt })

module _ {lo hi : ℤ} {n : ℕ} (b : Bounded lo hi n) (r : ℕ) (h : r ≤ n) where
  pub near_movable : (x : ℤ) → Near lo hi r x → Movable x
  near_movable x k =
      let (p, q) = near_in k in
      let low = b.low in
      let high = b.high in
      let few = b.few in
      record { low = omega zarith; high = omega zarith }

  pub nears_movable : (l : List ℤ) → All (Near lo hi r) l → All Movable l
  nears_movable = all_weaker (Near lo hi r) Movable near_movable

  pub inside_movable : (x : ℤ) → Inside lo hi x → Movable x
  inside_movable x k = near_movable x (inside-near r k)
