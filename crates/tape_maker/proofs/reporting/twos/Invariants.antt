-- `twos` meets its contract: the places of the instructions before i are filled.
use mathlib.Core.Bool.{false}
use Rattle.model.specs.Language.{has_exits}
use Rattle.tape_maker.proofs.Tables.{FilledTo}
use Rattle.tape_maker.proofs.reporting.twos.Given as goal

abbrev pub invariant-loop-i : goal.invariant-loop-i
invariant-loop-i l = FilledTo has_exits false l.instructions l.count l.i l.two
