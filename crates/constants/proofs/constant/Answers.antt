-- `constant` meets its contract: the constant of the fields from k on is that of all of them.
use mathlib.Core.Path.{◌≡◌, sym, ap, ◌∙◌, subst}
use mathlib.Core.List.{List}
use Prim.Native.Nat.{◌<◌, ◌≤◌}
use native.Mathlib.Omega.{arith}
use borrow.Author.Rules.{sfits_of}
use mir.Syntax.{w32}
use mir.Facts.{to_z-of_z}
use lib.ListN.{length, get_or}
use Rattle.flow.specs.Words.{sorts, may_minus}
use Rattle.flow.specs.declared.Sort.{Sort}
use Rattle.flow.specs.declared.Sort.TheVariants.{Target}
use Rattle.flow.proofs.RowLaws.{width-bound}
use Rattle.flow.specs.Inner.Rows.{numbers_in}
use Rattle.constants.proofs.RowConstants as laws
use Rattle.constants.proofs.constant.Goals.{After-may_minus, In-loop-k}
use Rattle.constants.proofs.constant.Goals as goal

within : (c : In-loop-k) → c.loop-k.k < length (sorts c.args.x.kind)
within c = subst (λ (ss : List Sort). c.loop-k.k < length ss) c.sorts-sort-items.ensures c.loop-k-test.true

-- whether field k may have a minus
minus : (c : After-may_minus) → c.may_minus.result ≡ may_minus (get_or (sorts c.args.x.kind) c.loop-k.k Target)
minus c = c.may_minus.ensures ∙ ap (λ (ss : List Sort). may_minus (get_or ss c.loop-k.k Target)) c.sorts-sort-items.ensures

-- ---- the needs
pub loop-k-init : goal.loop-k-init
loop-k-init c = laws.constant-row c.args.x

pub returns-then-may_minus : goal.returns-then-may_minus
returns-then-may_minus c =
    let x = c.args.x in
    let at = goal.at.returns-then-may_minus c in
    to_z-of_z {w = w32} (sfits_of c.number.type_inv) ∙ c.number.ensures
    ∙ laws.constant-here (sorts x.kind) (numbers_in x) c.loop-k.k (within at.In-loop-k) (sym (minus at.After-may_minus) ∙ c.if-may_minus.true)
    ∙ c.loop-k.invariant

pub loop-k-preserved : goal.loop-k-preserved
loop-k-preserved c =
    let x = c.args.x in
    let at = goal.at.loop-k-preserved c in
    laws.constant-more (sorts x.kind) (numbers_in x) c.loop-k.k (within at.In-loop-k) (sym (minus at.After-may_minus) ∙ c.if-may_minus.false) ∙ c.loop-k.invariant

pub returns : goal.returns
returns c =
    let x = c.args.x in
    laws.constant-none (sorts x.kind) (numbers_in x) c.loop-k.k (subst (λ (ss : List Sort). length ss ≤ c.loop-k.k) c.sorts-sort-items.ensures c.loop-k-test.false) ∙ c.loop-k.invariant

pub number-requires : goal.number-requires
number-requires c = omega (arith, within (goal.at.number-requires c).In-loop-k, width-bound c.args.x.kind)
