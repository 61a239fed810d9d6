-- `cells::trace` meets its contract: the field holds the way from the step where the loop stands (proofs/WayBack.antt).
use Rattle.cells.proofs.WayBack.{TracingIn}
use Rattle.cells.proofs.trace.Given as goal

abbrev pub invariant-loop-t : goal.invariant-loop-t
invariant-loop-t l = TracingIn l.initial.cells l.cells l.at l.steps l.i l.t
