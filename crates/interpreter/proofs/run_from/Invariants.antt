-- `run_from` meets its contract. The invariant is `Running` (RunLaws), the measure what is left of the limit; each of the three answers
-- cites the law on that end, and the turn cites `running_on` with what the calls ensure.
use Prim.Native.Nat.{◌-◌}
use Rattle.interpreter.proofs.RunLaws.{Running}
use Rattle.interpreter.proofs.run_from.Given as goal

abbrev pub invariant-loop-flow : goal.invariant-loop-flow
invariant-loop-flow l =
    Running l.flow l.limit l.cells l.records l.initial.at l.ends l.initial.numbers l.initial.values l.steps
    (record { next = l.next; variables = l.variables; at = l.at; puts = l.puts; numbers = l.numbers; values = l.values; p = l.p; m = l.m })

abbrev pub decreases-loop-flow : goal.decreases-loop-flow
decreases-loop-flow l =
    l.limit - l.steps
