-- `reader::read_bytes` meets its contract: each way out is one of the definition's checks, in the order of the table.
use native.Mathlib.Omega.{arith}
use Prim.Native.Nat.{◌+◌, ◌≤◌}
use lib.ListN.{length}
use mathlib.Core.Path.{sym, ◌∙◌}
use Rattle.flow.proofs.HeadLaws.{head-read_fits}
use Rattle.reader.proofs.FlowLaws.{text-long, text_unended, line_ends, text_rest, text-fault}
use Rattle.reader.proofs.LineLaws.{left_by}
use Rattle.reader.proofs.read_bytes.Goals.{After-end_of-end}
use Rattle.reader.proofs.read_bytes.Goals as goal

pub returns-then-long : goal.returns-then-long
returns-then-long c = text-long c.args.text.now (omega arith)

pub returns-then-text-ne10 : goal.returns-then-text-ne10
returns-then-text-ne10 c = text_unended c.args.text.now (omega arith) c.if-text-ne10.true

pub returns-in_err-head : goal.returns-in_err-head
returns-in_err-head c =
    left_by _ c.from_residual.ensures.1
    ∙ text-fault c.args.text.now (omega arith) c.requires c.if-text-ne10.false _ c.end_of-end.ensures.0 _ c.in_err-head.ensures

-- line 1 ends within the text
ends : (c : After-end_of-end) → c.end_of-end.result + 1 ≤ length c.args.text.now
ends c = line_ends c.args.text.now (omega arith) c.requires c.if-text-ne10.false _ c.end_of-end.ensures.0

pub slice_bounds-read_rest-start : goal.slice_bounds-read_rest-start
slice_bounds-read_rest-start c = ends (goal.at.slice_bounds-read_rest-start c).After-end_of-end

pub slice_bounds-read_rest-count : goal.slice_bounds-read_rest-count
slice_bounds-read_rest-count c = ends (goal.at.slice_bounds-read_rest-count c).After-end_of-end

pub read_rest-requires : goal.read_rest-requires
read_rest-requires c = head-read_fits _ _ (sym c.in_ok-head.ensures)

pub returns : goal.returns
returns c =
    c.read_rest.ensures ∙ text_rest c.args.text.now (omega arith) c.requires c.if-text-ne10.false _ c.end_of-end.ensures.0 _ c.in_ok-head.ensures
