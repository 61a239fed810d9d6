-- `sample_row::capped` meets its contract.
use Prim.Native.Nat.{◌+◌}
use native.Mathlib.Omega.{arith}
use Rattle.sample_row.proofs.Spans.{total_take, total_le}
use Rattle.sample_row.proofs.capped.Goals as goal

pub returns-then-cap-sum : goal.returns-then-cap-sum
returns-then-cap-sum c = let ns = c.args.lengths.now in let i = c.loop-x.x-index in
    omega (arith, c.loop-x.invariant.0, total_take ns i (omega arith), total_le ns (i + 1))
