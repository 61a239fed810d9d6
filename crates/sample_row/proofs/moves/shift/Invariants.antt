-- `sample_row::moves::shift` meets its contract. The loop's invariant: the numbers before the index are moved.
use Rattle.sample_row.specs.Inner.Moves.{moved}
use Rattle.sample_row.proofs.Mapped.{Mapped}
use Rattle.sample_row.proofs.moves.shift.Given as goal

abbrev pub invariant-loop-x : goal.invariant-loop-x
invariant-loop-x l = Mapped (moved l.out l.m) l.initial.part l.x-index l.part
