-- `prepare` meets its contract: the places of the instructions before i are filled.
use mathlib.Core.Path.{◌≡◌, sym, ap, ◌∙◌, subst}
use native.Mathlib.Omega.{arith}
use borrow.Author.Rules.{rules}
use mir.Facts.{to_z-of_z}
use lib.IntN.{ℤ}
use lib.ListN.{length}
use mathlib.Core.List.{[]}
use Rattle.model.specs.Language.{stop}
use Rattle.flow.specs.Code.{row, row_of}
use Rattle.flow.specs.declared.Instruction.{Instruction as Row}
use Rattle.flow.specs.declared.Kind.TheVariants.{Read}
use Rattle.tape_maker.specs.Inner.Plan.{Each}
use Rattle.tape_maker.proofs.Tables.{filled-start}
use Rattle.configuration.specs.Inner.Prepare.{FitBytes}
use Rattle.configuration.specs.Inner.Op.{op_of}
use Rattle.search_table.specs.Inner.Passes.{blank}
use Rattle.tape_maker.proofs.Tables.{same_there, line_row, filled_to_more, filled-end}
use Rattle.tape_maker.proofs.planning.prepare.Goals as goal

pub loop-i-init : goal.loop-i-init
unfolding op_of
loop-i-init c = filled-start _ blank _ _ _ c.stop-ops.ensures

-- what stands past the rows
abbrev past : Row
past = row Read []

pub prepare-requires : goal.prepare-requires
prepare-requires c = let long : length c.args.instructions ≡ 64 = search rules in
    subst FitBytes (same_there c.args.instructions c.loop-i.i (row_of stop) past (omega arith)) (c.requires.1 c.loop-i.i (omega arith))

pub loop-i-preserved : goal.loop-i-preserved
loop-i-preserved c = let a = c.args in
    let i = c.loop-i.i in
    let long : length a.instructions ≡ 64 = search rules in
    filled_to_more _ blank a.instructions a.count i _ _ (omega arith) c.loop-i.invariant
    (c.prepare.ensures ∙ ap (op_of _) (sym (line_row a.instructions a.count i past (omega arith) (omega arith))))

pub returns : goal.returns
returns c = let a = c.args in
    subst (λ (z : ℤ). Each (op_of z) blank a.instructions a.count c.loop-i.ops) (to_z-of_z c.ranges.lo)
    (filled-end _ blank a.instructions a.count c.loop-i.i _ (omega arith) c.loop-i.invariant)
