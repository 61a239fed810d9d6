-- `text::read_natural` meets its contract: each return is a law of `natural` at the code's tests.
use mathlib.Core.Path.{sym, ap, ◌∙◌}
use native.Mathlib.Omega.{arith}
use borrow.Author.Tests.{ltb-false, ltb-true, eqb-false}
use Rattle.text.proofs.Digits.{answer, natural_empty, natural-zero, natural-plain}
use Rattle.text.proofs.read_natural.Goals.{in_default-via-then-f-lt2, in_default-via-else-f-lt2+in_default-1}
use Rattle.text.proofs.read_natural.Goals as goal

pub returns-in_default : goal.returns-in_default
returns-in_default c =
    c.read_digits.ensures ∙ sym (ap answer (natural-plain c.args.f.now (omega (arith, ltb-false)) (λ long zero. elim c.in_default.branch [
      | in_default-via-then-f-lt2 w ↦ omega (arith, ltb-true)
      | in_default-via-else-f-lt2+in_default-1 w ↦ omega (arith, ltb-false, eqb-false)
    ])))

pub returns-in-empty : goal.returns-in-empty
returns-in-empty c = sym (ap answer (natural_empty c.args.f.now (omega arith)))

pub returns-in-empty-2 : goal.returns-in-empty-2
returns-in-empty-2 c = sym (ap answer (natural-zero c.args.f.now (omega arith) (omega arith)))
