-- `cells::depth` meets its contract: the loop stands at the entry that is so many parents up as it has counted (proofs/WayBack.antt).
use Prim.Native.Nat.{◌+◌, ◌≤◌}
use native.Mathlib.Omega.{arith}
use Rattle.cells.specs.Inner.Columns.{parent_field}
use Rattle.cells.proofs.Fields.{length-column}
use Rattle.cells.proofs.WayBack.{count-start, count-more, ancestor_falls}
use Rattle.cells.proofs.depth.Goals.{At-loop-i}
use Rattle.cells.proofs.depth.Goals as goal

falls : (c : At-loop-i) → c.loop-i.i + c.loop-i.s ≤ c.args.at
falls c =
    omega (arith, ancestor_falls c.requires.parents c.requires.at_lt_n c.loop-i.s c.loop-i.invariant.later, c.loop-i.invariant.here)

-- ---- the needs
pub get-i-requires : goal.get-i-requires
get-i-requires c = (omega (arith, falls (goal.at.get-i-requires c).At-loop-i, c.requires.at_lt_n, c.requires.parents.room, length-column parent_field c.args.cells.now), omega arith)

pub overflow_add-s : goal.overflow_add-s
overflow_add-s c = omega (arith, falls (goal.at.overflow_add-s c).At-loop-i, c.requires.at_lt_n, c.requires.parents.few)

pub loop-i-smaller : goal.loop-i-smaller
loop-i-smaller c = omega (arith, c.get-i.ensures, c.requires.parents.before c.loop-i.i (omega arith) (omega (arith, falls (goal.at.loop-i-smaller c).At-loop-i, c.requires.at_lt_n)))

pub loop-i-init : goal.loop-i-init
loop-i-init c = count-start _ _

pub loop-i-preserved : goal.loop-i-preserved
loop-i-preserved c = count-more c.loop-i.invariant (omega arith) _ c.get-i.ensures
