-- `visit` meets its contract. Each answer is a law of Visiting, from what `find` found and what `add` stored.
use native.Mathlib.Omega.{arith}
use Rattle.cells.specs.Inner.Columns.{marks_field}
use Rattle.cells.specs.Inner.Index.{FoundIs}
use Rattle.cells.proofs.Fields.{length-column}
use Rattle.cells.proofs.Entering.{filled-room}
use Rattle.cells.proofs.Marking.{fresh-none, fresh-one}
use Rattle.search_visit.specs.Inner.Visit.{VisitedIs}
use Rattle.search_visit.specs.Inner.Fan.{FreshIs}
use Rattle.search_visit.proofs.Visiting.{visit_found, visit_full, visit_new}
use Rattle.search_visit.proofs.visit.Goals as goal

pub returns-in-Some : goal.returns-in-Some
unfolding VisitedIs FreshIs FoundIs
returns-in-Some c = record { visited_in = visit_found c.requires.filled_in c.in-Some.ensures; fresh_in = fresh-none _ _ }

pub returns-then-size-n : goal.returns-then-size-n
unfolding VisitedIs FreshIs FoundIs
returns-then-size-n c = record { visited_in = visit_full c.requires.filled_in c.in_default.ensures (omega arith); fresh_in = fresh-none _ _ }

pub returns : goal.returns
unfolding VisitedIs FreshIs FoundIs
returns c = let more = c.add.ensures in
    record { visited_in = visit_new c.requires.filled_in c.in_default.ensures (omega arith) more.added more.filled_in_2; fresh_in = fresh-one _ _ _ more.cells_after (omega (arith, filled-room _ c.requires.filled_in, length-column marks_field c.args.cells.now, c.if-size-n.false)) }
