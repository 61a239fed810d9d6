-- `Instruction::lies_within` meets its contract: what the fields that are left come to is what all of them come to.
use mathlib.Core.Bool.{Bool, true, false, ◌&&◌}
use mathlib.Core.Path.{◌≡◌, ap, ap₂, ◌∙◌}
use Rattle.std.proofs.Common.{rules}
use Rattle.std.specs.Prelude.{Option, ℤ}
use Rattle.std.specs.Iterator.Adapters.{zip_first, zip_second}
use Rattle.std.specs.Slice.Iter.{iter_rest}
use Rattle.std.proofs.lemmas.Slice.Zip.{Zip-more, either_empty_from_Zip}
use Rattle.flow.specs.Inner.Reader.{field}
use Rattle.flow.specs.Inner.Rows.{numbers_in}
use Rattle.flow.specs.Read.{between, all, lies_within}
use Rattle.flow.specs.Words.{sorts}
use Rattle.flow.specs.declared.Sort.{Sort}
use Rattle.flow.proofs.RowLaws.{paired, fields-paired, pair-tried, pairs-end}
use Rattle.flow.proofs.SortLaws.{lies_so}
use Rattle.model.specs.Language.{Field}
use mir.Syntax.{w32}
use mir.Val.{SFits}
use mir.Facts.{to_z-of_z}
use Rattle.flow.proofs.Instruction.lies_within.Goals.{After-lies-in_range}
use Rattle.flow.proofs.Instruction.lies_within.Given as given
use Rattle.flow.proofs.Instruction.lies_within.Goals as goal

pub loop-sort-init : goal.loop-sort-init
loop-sort-init g c =
    let first : iter_rest (zip_first c.into_iter-sort-iterator.result) ≡ sorts c.args.self.kind = cc in
    let second : iter_rest (zip_second c.into_iter-sort-iterator.result) ≡ numbers_in c.args.self = cc in
    ((λ ranges so. ap (all (lies_within ranges)) (ap₂ paired first second ∙ fields-paired c.args.self)), search rules, search rules)

-- what was found of the next field
found : (g : given.Over) (c : After-lies-in_range g) (ranges : Sort → Option (ℤ × ℤ)) →
    ((s : Sort) (r : Option (ℤ × ℤ)) → given.R-post g c.args.range s r → r ≡ ranges s) →
    c.lies-in_range.result ≡ lies_within ranges (field c.in-Some.sort.now c.in-Some.n.now)
found g c ranges so =
    let f : SFits w32 c.held.result = search rules in
    let n : SFits w32 c.in-Some.n.now = search rules in
    let lies : c.lies-in_range.result ≡ between c.range.result c.held.result = rw (to_z-of_z f) at c.lies-in_range.ensures in
    lies ∙ lies_so ranges c.in-Some.sort.now c.in-Some.n.now (so _ _ c.range.ensures) (rw (to_z-of_z n) at c.held.ensures)

-- the fields that are left, with the next
left : (g : given.Over) (c : After-lies-in_range g) (test : Field → Bool) → let it = c.loop-sort.sort-iterator in let next = c.next.new.self in
    (test (field c.in-Some.sort.now c.in-Some.n.now) && all test (paired (iter_rest (zip_first next)) (iter_rest (zip_second next))))
    ≡ all test (paired (iter_rest (zip_first it)) (iter_rest (zip_second it)))
left g c test =
    let more = Zip-more _ c.next.new.self _ _ c.in-Some.is c.next.ensures.steps in
    pair-tried test c.in-Some.sort.now c.in-Some.n.now _ _ more.0 more.1

pub returns-then-not-in_range : goal.returns-then-not-in_range
returns-then-not-in_range g c = λ ranges so.
    let at = (goal.at.returns-then-not-in_range g c).After-lies-in_range in
    let t : lies_within ranges (field c.in-Some.sort.now c.in-Some.n.now) ≡ false = rw (found g at ranges so) at c.if-not-in_range.true in
    (rw t at (left g at (lies_within ranges))) ∙ c.loop-sort.invariant.0 ranges so

pub loop-sort-preserved : goal.loop-sort-preserved
loop-sort-preserved g c = (
  (λ ranges so.
      let at = (goal.at.loop-sort-preserved g c).After-lies-in_range in
      let t : lies_within ranges (field c.in-Some.sort.now c.in-Some.n.now) ≡ true = rw (found g at ranges so) at c.if-not-in_range.false in
      (rw t at (left g at (lies_within ranges))) ∙ c.loop-sort.invariant.0 ranges so),
  search rules,
  search rules,
)

pub returns : goal.returns
returns g c = λ ranges so.
    let none = either_empty_from_Zip _ c.next.new.self _ c.in-None.is c.next.ensures.steps in
    pairs-end (lies_within ranges) _ _ none ∙ c.loop-sort.invariant.0 ranges so
