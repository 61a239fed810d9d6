-- `twos` meets its contract: the places of the instructions before i are filled.
use mathlib.Core.Path.{◌≡◌, refl, ◌∙◌}
use mathlib.Core.Bool.{false}
use native.Mathlib.Omega.{arith}
use borrow.Author.Rules.{rules}
use lib.ListN.{length}
use Rattle.model.specs.Language.{has_exits}
use Rattle.tape_maker.proofs.Tables.{filled-start, filled_to_more, filled-end, two-exits, exits-held}
use Rattle.tape_maker.proofs.reporting.twos.Goals as goal

pub loop-i-init : goal.loop-i-init
loop-i-init c = filled-start has_exits false _ _ false refl

pub loop-i-preserved : goal.loop-i-preserved
loop-i-preserved c = let a = c.args in
    let i = c.loop-i.i in
    let long : length a.instructions ≡ 64 = search rules in
    filled_to_more has_exits false a.instructions a.count i _ _ (omega arith) c.loop-i.invariant
    (c.has_exits.ensures ∙ two-exits _ ∙ exits-held a.instructions a.count i _ (omega arith) (omega arith))

pub returns : goal.returns
returns c = let a = c.args in
    filled-end has_exits false a.instructions a.count c.loop-i.i _ (omega arith) c.loop-i.invariant
