-- `tape_maker::planning::plan_of` meets its contract: what the flow is searched by is prepared from it.
use mathlib.Core.Path.{◌≡◌, ap, ap₂, ◌∙◌, subst, subst⁻¹}
use Prim.Native.Nat.{◌<◌}
use borrow.Author.Rules.{rules}
use mir.Syntax.{w32}
use mir.Val.{SFits, to_z, of_z}
use mir.Facts.{to_z-of_z}
use lib.IntN.{ℤ, pos}
use Rattle.model.specs.Language.{C1, C2}
use Rattle.model.specs.Pattern.{width_of}
use Rattle.constants.specs.Inner.Constants.{offset}
use Rattle.configuration.specs.Inner.Op.{op_of}
use Rattle.pattern_word.specs.Inner.Pattern.{lane}
use Rattle.configuration.specs.Inner.Step.{start_of}
use Rattle.configuration.proofs.Fitting.{fit-legal}
use Rattle.configuration.proofs.Reaches.{start_fits}
use Rattle.search_table.specs.Inner.Passes.{blank}
use Rattle.tape_maker.specs.Inner.Plan.{Each}
use Rattle.tape_maker.proofs.ReportLaws.{rows-prepared, rows-bytes}
use Rattle.flow.specs.Inner.Rows.{flow_of}
use Rattle.tape_maker.proofs.planning.plan_of.Goals.{After-width}
use Rattle.tape_maker.proofs.planning.plan_of.Goals as goal

-- the least and the greatest constant, as they are passed on
lo-is : (c : After-width) → to_z w32 (of_z w32 c.range_of-range.result.lo) ≡ C1 (flow_of c.args.flow)
lo-is c = let f : SFits w32 c.range_of-range.result.lo = search rules in to_z-of_z f ∙ c.range_of-range.ensures.0

hi-is : (c : After-width) → to_z w32 (of_z w32 c.range_of-range.result.hi) ≡ C2 (flow_of c.args.flow)
hi-is c = let f : SFits w32 c.range_of-range.result.hi = search rules in to_z-of_z f ∙ c.range_of-range.ensures.1

pub prepare-requires : goal.prepare-requires
prepare-requires c = (c.requires.1, rows-bytes c.args.flow c.requires.0)

pub start-requires : goal.start-requires
start-requires c = subst⁻¹ (λ (z : ℤ). offset (pos 0) z < lane) (lo-is (goal.at.start-requires c).After-width) (start_fits (fit-legal (flow_of c.args.flow) c.requires.0))

pub returns : goal.returns
returns c = let flow = c.args.flow in
    let range = c.range_of-range.ensures in
    let ops = c.prepare in
    record {
      legal = c.requires.0;
      prepared = rows-prepared flow
          (subst (λ (z : ℤ). Each (op_of z) blank flow.instructions flow.count ops.result) (lo-is (goal.at.returns c).After-width) ops.ensures);
      width = c.width.ensures ∙ ap₂ width_of range.0 range.1;
      begins = c.start.ensures ∙ ap start_of (lo-is (goal.at.returns c).After-width);
      low = lo-is (goal.at.returns c).After-width;
      high = hi-is (goal.at.returns c).After-width;
    }
