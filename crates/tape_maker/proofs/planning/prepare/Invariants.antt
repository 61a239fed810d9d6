-- `prepare` meets its contract: the places of the instructions before i are filled.
use Rattle.configuration.specs.Inner.Op.{op_of}
use Rattle.search_table.specs.Inner.Passes.{blank}
use Rattle.tape_maker.proofs.Tables.{FilledTo}
use Rattle.tape_maker.proofs.planning.prepare.Given as goal

abbrev pub invariant-loop-i : goal.invariant-loop-i
invariant-loop-i l = FilledTo (op_of l.lo) blank l.instructions l.count l.i l.ops
