-- `sample_row::moves::shift` meets its contract.
use mathlib.Core.Path.{ap, ◌∙◌}
use mir.Syntax.{w32}
use mir.Val.{to_z, of_z}
use mir.Facts.{to_z-of_z}
use borrow.Author.Rules.{rules, sfits_of}
use lib.IntN.{pos}
use lib.ListN.{get_or}
use Rattle.sample_row.specs.Inner.Moves.{moved}
use Rattle.sample_row.proofs.Bits.{movable_at}
use Rattle.sample_row.proofs.Mapped.{mapped_none, mapped_here, mapped_more, mapped_all}
use Rattle.sample_row.proofs.moves.shift.Goals as goal

pub loop-x-init : goal.loop-x-init
loop-x-init c = mapped_none _ _

pub moved-requires : goal.moved-requires
moved-requires c = let l = c.loop-x in
    let here = mapped_here _ _ l.part l.x-index l.invariant c.loop-x-test.true in
    rw (to_z-of_z {w = w32} {z = get_or l.part l.x-index (pos 0)} (search rules), here) (movable_at c.args.part.now l.x-index c.requires)

pub loop-x-preserved : goal.loop-x-preserved
loop-x-preserved c = let l = c.loop-x in
    let here = mapped_here _ _ l.part l.x-index l.invariant c.loop-x-test.true in
    mapped_more _ _ l.part l.x-index l.invariant c.loop-x-test.true _
    (to_z-of_z {w = w32} (sfits_of c.moved.type_inv) ∙ c.moved.ensures
    ∙ ap (moved c.args.out (to_z w32 (of_z w32 c.args.m))) (to_z-of_z {w = w32} {z = get_or l.part l.x-index (pos 0)} (search rules) ∙ here))

pub returns : goal.returns
returns c = mapped_all _ _ _ _ c.loop-x.invariant c.loop-x-test.false ∙ rw (to_z-of_z c.ranges.m)
