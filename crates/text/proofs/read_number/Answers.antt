-- `text::read_number` meets its contract: each return is a law of `numeral` at the code's tests.
use mathlib.Core.Path.{◌≡◌, sym, ap, ◌∙◌}
use mathlib.Core.List.{List}
use Rattle.std.specs.Prelude.{Option, Some, option_map}
use Prim.Native.Nat.{ℕ}
use native.Mathlib.Omega.{arith}
use borrow.Author.Tests.{ltb-true, eqb-false}
use Rattle.std.proofs.Common.{rules}
use Rattle.text.specs.Number.{natural, negative, numeral}
use Rattle.text.specs.Inner.Capped.{capped}
use Rattle.text.proofs.Digits.{answer, digits_behind, numeral_plain, numeral_barred, numeral_minus}
use Rattle.text.proofs.Digits.{minus_bad, minus_fits, minus_zero, minus_value}
use Rattle.text.proofs.read_number.Goals.{After-read_natural-2, In_ok-n, in_default-via-then-f-lt1, in_default-via-else-f-lt1+in_default-1}
use Rattle.text.proofs.read_number.Goals as goal

pub returns-in_default : goal.returns-in_default
returns-in_default c =
    c.read_natural.ensures ∙ sym (ap (option_map capped) (numeral_plain c.args.minus c.args.f.now (λ more minus. elim c.in_default.branch [
      | in_default-via-then-f-lt1 w ↦ omega (arith, ltb-true)
      | in_default-via-else-f-lt1+in_default-1 w ↦ omega (arith, eqb-false)
    ])))

pub returns-then-not-minus : goal.returns-then-not-minus
returns-then-not-minus c =
    sym (ap (option_map capped) (numeral_barred c.args.minus c.args.f.now (omega arith) (omega arith) c.if-not-minus.true))

-- what stands behind the minus, read as a size; the field is that size below 0
abbrev size : List ℕ → Option ℕ
size f = natural (digits_behind f)

below : (c : After-read_natural-2) → let a = c.args in option_map capped (negative (size a.f.now)) ≡ option_map capped (numeral a.minus a.f.now)
below c =
    let a = c.args in
    sym (ap (option_map capped) (numeral_minus a.minus a.f.now (omega arith) (omega arith) c.if-not-minus.false))

-- the size that the code holds
held : (c : In_ok-n) → answer (size c.args.f.now) ≡ Some c.in_ok-n.n
held c = sym c.read_natural-2.ensures ∙ c.in_ok-n.was

pub returns-in_err-n : goal.returns-in_err-n
returns-in_err-n c = c.from_residual.ensures ∙ minus_bad (size c.args.f.now) (sym c.read_natural-2.ensures ∙ c.in_err-n.was) ∙ below (goal.at.returns-in_err-n c).After-read_natural-2

pub overflow_sub-result : goal.overflow_sub-result
overflow_sub-result c = minus_fits (size c.args.f.now) _ (held (goal.at.overflow_sub-result c).In_ok-n)

pub returns-in-0 : goal.returns-in-0
returns-in-0 c = let h = c.in-0 in
    let at = goal.at.returns-in-0 c in
    minus_zero (size c.args.f.now) _ (held at.In_ok-n) (search rules) ∙ below at.After-read_natural-2

pub returns-in_default-2 : goal.returns-in_default-2
returns-in_default-2 c = let h = c.in_default-2 in
    let at = goal.at.returns-in_default-2 c in
    minus_value (size c.args.f.now) _ (held at.In_ok-n) (search rules) ∙ below at.After-read_natural-2
