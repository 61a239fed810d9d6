-- `list_exits` meets its contract: each number is kept by whether its exit is taken.
use mathlib.Core.Path.{ap, ◌∙◌}
use mathlib.Core.Bool.{Bool, cond, ◌&&◌}
use lib.Dec.{eqb}
use Rattle.search_table.proofs.list_exits.Goals as goal

pub returns : goal.returns
returns c = let a = c.args in (
  c.kept.ensures ∙ ap (λ (b : Bool). cond (b && eqb a.p 0) a.d a.p) c.exits_of-taken.ensures.0,
  c.kept-2.ensures ∙ ap (λ (b : Bool). cond (b && eqb a.m 0) a.d a.m) c.exits_of-taken.ensures.1,
)
