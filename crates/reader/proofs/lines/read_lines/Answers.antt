-- `lines::read_lines` meets its contract: a line is read in three steps, before its numbers, its numbers, behind them, whose faults are those of the line.
use mathlib.Core.Path.{◌≡◌, sym, ap, ap₂, ◌∙◌, subst}
use mathlib.Core.Bool.{Bool}
use mathlib.Core.List.{List, []}
use Prim.Native.Nat.{ℕ, ◌+◌, ◌<◌, ◌≤◌}
use native.Mathlib.Omega.{arith}
use borrow.Author.Rules.{rules}
use lib.ListN.{length, get_or, length-set}
use mir.Syntax.{w32, w64}
use mir.Val.{SFits, to_z, of_z}
use mir.Facts.{to_z-of_z}
use Rattle.std.specs.Prelude.{Ok, Err, option_map}
use Rattle.text.specs.Split.{split}
use Rattle.text.specs.Number.{numeral}
use Rattle.text.specs.Inner.Capped.{capped}
use Rattle.flow.specs.Words.{sorts, may_minus}
use Rattle.flow.specs.Inner.Reader.{bounded}
use Rattle.flow.specs.declared.Refusal.{Refusal}
use Rattle.flow.specs.declared.Sort.{Sort}
use Rattle.flow.specs.declared.Sort.TheVariants.{Target}
use Rattle.flow.proofs.RowLaws.{width-bound}
use Rattle.reader.proofs.LineLaws as laws
use Rattle.reader.proofs.lines.read_lines.Goals.{After-new-fields, In_ok-start, In-loop-k, After-read_number-number, After-loop-k}
use Rattle.reader.proofs.lines.read_lines.Goals as goal

-- a line that is refused
fault : (c : After-new-fields) (r : Refusal) → laws.line_stepped c.args.head c.loop-at.count (split c.new-fields.result.line.now) ≡ Err r → Err r ≡ laws.kept_lines c.args.head c.args.text.now
fault c r e =
    sym (laws.lines-fault c.loop-at.invariant.3 c.requires c.loop-at-test.true c.end_of-end.result c.end_of-end.ensures.0 (split c.new-fields.result.line.now) (ap split c.new-fields.ensures.same_line) r e)

-- one that shows no fault before its numbers is not one too many, and has the fields that its word asks for
begun : (c : In_ok-start) → (c.loop-at.count < 64) × (length (split c.new-fields.result.line.now) ≡ length (sorts c.in_ok-start.start.kind) + 2)
begun c = laws.begun c.loop-at.count (split c.new-fields.result.line.now) c.in_ok-start.start (sym c.in_ok-start.ensures)

-- one of its numbers
within : (c : In-loop-k) → c.loop-k.k < length (sorts c.in_ok-start.start.kind)
within c = subst (λ (ss : List Sort). c.loop-k.k < length ss) c.sorts-sort-items.ensures c.loop-k-test.true

number : (c : After-read_number-number)
    → option_map capped (numeral (may_minus (get_or (sorts c.in_ok-start.start.kind) c.loop-k.k Target)) (get_or (split c.new-fields.result.line.now) (c.loop-k.k + 2) [])) ≡ c.read_number-number.result
number c =
    let minus = c.may_minus.ensures ∙ ap (λ (ss : List Sort). may_minus (get_or ss c.loop-k.k Target)) c.sorts-sort-items.ensures in
    sym (c.read_number-number.ensures ∙ ap₂ (λ (m : Bool) (f : List ℕ). option_map capped (numeral m f)) minus c.get.ensures)

-- all of them
read : (c : After-loop-k) → length (sorts c.in_ok-start.start.kind) ≤ c.loop-k.k
read c = subst (λ (ss : List Sort). length ss ≤ c.loop-k.k) c.sorts-sort-items.ensures c.loop-k-test.false

pub returns-in_err-start : goal.returns-in_err-start
returns-in_err-start c =
    laws.left_by _ c.from_residual.ensures.1
    ∙ fault (goal.at.returns-in_err-start c).After-new-fields _ (laws.stepped_start c.args.head c.loop-at.count (split c.new-fields.result.line.now) _ (sym c.in_err-start.ensures))

pub returns-in_err-ok_or : goal.returns-in_err-ok_or
returns-in_err-ok_or c =
    let at = goal.at.returns-in_err-ok_or c in
    let (none, is) = laws.asked-none c.read_number-number.result c.in_err-ok_or.ensures.value in
    let bad = laws.numbers_bad c.loop-k.invariant (within at.In-loop-k) (begun at.In_ok-start).1 (number at.After-read_number-number ∙ none) in
    laws.left_by _ c.from_residual-in_err-ok_or.ensures.1
    ∙ sym (ap Err is)
    ∙ fault at.After-new-fields _ (laws.stepped_bad c.args.head c.loop-at.count (split c.new-fields.result.line.now) c.in_ok-start.start (sym c.in_ok-start.ensures) bad)

pub loop-k-preserved : goal.loop-k-preserved
loop-k-preserved c =
    let at = goal.at.loop-k-preserved c in
    let v = c.in_ok-ok_or.field-0 in
    let f : SFits w64 v = search rules in
    let g : SFits w32 c.in_bounds.result = search rules in
    let is : to_z w32 (of_z w32 c.in_bounds.result) ≡ bounded v = to_z-of_z g ∙ c.in_bounds.ensures ∙ ap bounded (to_z-of_z f) in
    let written = number at.After-read_number-number ∙ laws.asked-some c.read_number-number.result _ c.in_ok-ok_or.ensures.value in
    rw is (laws.numbers_more c.loop-k.invariant (within at.In-loop-k) (begun at.In_ok-start).1 (width-bound c.in_ok-start.start.kind) v written)

pub returns-in_err-instruction : goal.returns-in_err-instruction
returns-in_err-instruction c =
    let at = goal.at.returns-in_err-instruction c in
    laws.left_by _ c.from_residual-in_err-instruction.ensures.1
    ∙ fault at.After-new-fields _
    (laws.stepped-end c.args.head c.loop-at.count (split c.new-fields.result.line.now) c.in_ok-start.start (sym c.in_ok-start.ensures) c.loop-k.invariant (read at.After-loop-k)
    ∙ sym c.in_err-instruction.ensures)

pub store-requires : goal.store-requires
store-requires c = omega (arith, (begun (goal.at.store-requires c).In_ok-start).0, c.loop-at.invariant.2)

pub loop-at-preserved : goal.loop-at-preserved
loop-at-preserved c =
    let at = goal.at.loop-at-preserved c in
    let few = (begun at.In_ok-start).0 in
    let e =
    laws.stepped-end c.args.head c.loop-at.count (split c.new-fields.result.line.now) c.in_ok-start.start (sym c.in_ok-start.ensures) c.loop-k.invariant (read at.After-loop-k)
    ∙ sym c.in_ok-instruction.ensures in (
      omega (arith, c.end_of-end.ensures.1),
      omega (arith, few),
      ap length c.store.ensures ∙ simp length-set c.loop-at.invariant.2,
      rw c.store.ensures
          (laws.lines_more c.loop-at.invariant.3 c.requires c.loop-at-test.true c.end_of-end.result c.end_of-end.ensures.0 (split c.new-fields.result.line.now) (ap split c.new-fields.ensures.same_line) _ few e),
    )

pub returns : goal.returns
returns c = ap Ok c.new.ensures ∙ sym (laws.lines_end c.loop-at.invariant.3 c.loop-at-test.false)
