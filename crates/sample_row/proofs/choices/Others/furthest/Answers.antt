-- `sample_row::choices::Others::furthest` meets its contract.
use mathlib.Core.Path.{◌≡◌, sym, ◌∙◌}
use mathlib.Core.Logic.{inl, inr}
use Prim.Native.Nat.{min}
use native.Mathlib.Omega.{arith}
use lib.ListN.{length}
use mir.Syntax.{w32}
use mir.Val.{to_z, of_z}
use mir.Facts.{to_z-of_z}
use Rattle.sample_row.specs.Inner.Moves.{further}
use Rattle.sample_row.proofs.Folds.{furthest_short}
use Rattle.sample_row.proofs.choices.Others.furthest.Goals as goal

pub returns : goal.returns
returns c = let rest = c.loop-a.a-iterator in
    let short : min (length rest.a.rest.now) (length rest.b.rest.now) ≡ 0
    = elim c.in-None.ensures.steps [ inl q ↦ omega (arith, q.1.0) | inr q ↦ omega (arith, q.1.0) ] in
    sym (furthest_short (further c.args.out) (to_z w32 c.loop-a.m-bits) (to_z w32 (of_z w32 c.args.y)) _ _ short) ∙ c.loop-a.invariant ∙ rw (to_z-of_z c.ranges.y, to_z-of_z c.ranges.edge)
