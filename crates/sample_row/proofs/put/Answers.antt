-- `sample_row::put` meets its contract.
use Prim.Native.Nat.{◌-◌}
use native.Mathlib.Omega.{arith}
use lib.ListN.{length}
use mir.Facts.{to_z-of_z}
use Rattle.sample_row.proofs.Sized.{put_is}
use Rattle.sample_row.proofs.put.Goals as goal

pub returns : goal.returns
returns c = let a = c.args in
    put_is a.row.now a.s a.k (length a.row.now - a.s) a.x _ c.requires (omega arith) (rw (to_z-of_z c.ranges.x))
