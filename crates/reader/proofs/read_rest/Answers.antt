-- `reader::read_rest` meets its contract.
use mathlib.Core.Path.{sym, ◌∙◌}
use native.Mathlib.Omega.{arith}
use borrow.Author.Tests.{le-leb}
use Rattle.text.specs.Split.{lines}
use Rattle.reader.proofs.FlowLaws.{rest_fault, rest_judged, rest_sizes}
use Rattle.reader.proofs.LineLaws.{left_by}
use Rattle.reader.proofs.read_rest.Goals as goal

pub returns-in_err-flow : goal.returns-in_err-flow
returns-in_err-flow c = left_by _ c.from_residual.ensures.1 ∙ rest_fault c.args.head c.requires (lines c.args.rest.now) _ (sym c.in_err-flow.ensures)

pub returns-then-flow-eq0 : goal.returns-then-flow-eq0
returns-then-flow-eq0 c = rw (rest_judged c.args.head c.requires (lines c.args.rest.now) c.in_ok-flow.ensures, c.if-flow-eq0.true)

pub shared_ref_as_front-check_targets : goal.shared_ref_as_front-check_targets
shared_ref_as_front-check_targets c = (rest_sizes c.args.head c.requires (lines c.args.rest.now) c.in_ok-flow.ensures).0

pub check_targets-requires : goal.check_targets-requires
check_targets-requires c = (rest_sizes c.args.head c.requires (lines c.args.rest.now) c.in_ok-flow.ensures).1

pub returns-in_err-check_targets : goal.returns-in_err-check_targets
returns-in_err-check_targets c =
    left_by _ c.from_residual-in_err-check_targets.ensures.1
    ∙ rw (
      rest_judged c.args.head c.requires (lines c.args.rest.now) c.in_ok-flow.ensures,
      le-leb 1 c.in_ok-flow.flow.count (omega arith),
      ← c.in_err-check_targets.ensures,
    )

pub returns : goal.returns
returns c =
    rw (
      rest_judged c.args.head c.requires (lines c.args.rest.now) c.in_ok-flow.ensures,
      le-leb 1 c.in_ok-flow.flow.count (omega arith),
      ← c.in_ok-check_targets.ensures,
    )
