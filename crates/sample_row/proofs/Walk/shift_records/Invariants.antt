-- `sample_row::Walk::shift_records` meets its contract. The loop's invariant: with the parts that are left still to do, the whole is what was asked.
use mathlib.Core.Path.{◌≡◌}
use lib.ListN.{length}
use Rattle.model.specs.Inner.Lists.{All}
use Rattle.sample_row.specs.Inner.Moves.{moved, Movable}
use Rattle.sample_row.specs.Inner.Layout.{tapes_at, on_parts, Apart}
use Rattle.sample_row.proofs.Walk.shift_records.Given as goal

abbrev pub invariant-loop-s : goal.invariant-loop-s
invariant-loop-s l =
    Apart 0 l.s-iterator.a.rest.now l.s-iterator.b.rest.now (length l.row)
    × All (All Movable) (tapes_at l.s-iterator.a.rest.now l.s-iterator.b.rest.now l.row)
    × (on_parts (moved l.out l.m) l.s-iterator.a.rest.now l.s-iterator.b.rest.now l.row ≡ on_parts (moved l.out l.m) l.fn.self.starts l.fn.self.counts l.fn.row)
