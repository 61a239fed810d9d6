-- `search` meets its contract: after `begin` the search stands at its start, and the walk answers for the cells that there are.
use mathlib.Core.Path.{sym, ◌∙◌}
use native.Mathlib.Omega.{arith}
use Rattle.search.specs.Inner.Search.{SearchedIs}
use Rattle.search.proofs.Exploring.{begun_exploring, none_fits, marks-room, of_all_cells}
use Rattle.search.proofs.search.Goals as goal

pub returns-then-empty : goal.returns-then-empty
unfolding SearchedIs
returns-then-empty c = λ s is. none_fits _ _ _ _ (sym c.cells_of-size.ensures ∙ omega (arith, c.if-empty.true))

pub walk-requires : goal.walk-requires
walk-requires c = (
  c.requires.0,
  begun_exploring _ _ c.requires.1 c.begin.ensures
      (marks-room c.args.cells.now _ _ c.cells_of-size.ensures c.begin.auto.cells),
)

pub returns : goal.returns
returns c = λ s is. of_all_cells _ _ _ _ _ _ _ c.cells_of-size.ensures
    (c.walk.ensures s (begun_exploring _ _ is c.begin.ensures
    (marks-room c.args.cells.now _ _ c.cells_of-size.ensures c.begin.auto.cells)))
