-- `sample_row::choices::Others::furthest` meets its contract. The loop's invariant: the furthest of m and the rest is the furthest of all.
use mathlib.Core.Path.{◌≡◌}
use Rattle.model.specs.Inner.Runs.{furthest}
use Rattle.sample_row.specs.Inner.Moves.{further}
use Rattle.sample_row.proofs.choices.Others.furthest.Given as goal

abbrev pub invariant-loop-a : goal.invariant-loop-a
invariant-loop-a l =
    furthest (further l.out) l.m l.y l.a-iterator.a.rest.now l.a-iterator.b.rest.now
    ≡ furthest (further l.out) l.edge l.y l.fn.self.wish l.fn.self.values
