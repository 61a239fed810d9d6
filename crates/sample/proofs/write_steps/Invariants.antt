-- `write_steps` meets its contract: whatever flow the way is one of, after t steps the walk follows it.
use mathlib.Core.Path.{◌≡◌}
use mathlib.Core.List.{List}
use Prim.Native.Nat.{ℕ}
use lib.ListN.{length}
use Rattle.model.specs.Language.{Flow}
use Rattle.sample_row.specs.Inner.Reading.{first_walk}
use Rattle.sample.specs.Inner.Sampling.{course_in, CourseLeads, Roomy, Following}
use Rattle.sample.proofs.write_steps.Given as goal

abbrev pub invariant-loop-t : goal.invariant-loop-t
invariant-loop-t l =
    (length l.row ≡ length l.initial.row)
    × ((flow : Flow) (sizes : List ℕ) → CourseLeads (course_in l.cells l.steps l.coding.w l.program) flow
    → Roomy (course_in l.cells l.steps l.coding.w l.program) sizes (length l.initial.row) → l.initial.walk ≡ first_walk sizes
    → Following (course_in l.cells l.steps l.coding.w l.program) flow sizes l.initial.row l.t l.walk l.row)
