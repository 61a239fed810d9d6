-- `Coding::less` meets its contract: each arm answers as its case does.
use mathlib.Core.Path.{sym, ◌∙◌}
use Rattle.pattern_word.proofs.Cases as cases
use Rattle.pattern_word.proofs.Coding.less.Goals as goal

pub returns-in-Below-Below : goal.returns-in-Below-Below
returns-in-Below-Below c = cases.case_answer _ _ _ (sym c.in-Below-Below.is-0 ∙ c.position.ensures) (sym c.in-Below-Below.is-1 ∙ c.position-2.ensures)

pub returns-in-Below-Inside : goal.returns-in-Below-Inside
returns-in-Below-Inside c = cases.case_answer _ _ _ (sym c.in-Below-Inside.is-0 ∙ c.position.ensures) (sym c.in-Below-Inside.is-1 ∙ c.position-2.ensures)

pub returns-in-Below-Above : goal.returns-in-Below-Above
returns-in-Below-Above c = cases.case_answer _ _ _ (sym c.in-Below-Above.is-0 ∙ c.position.ensures) (sym c.in-Below-Above.is-1 ∙ c.position-2.ensures)

pub returns-in-Inside-Below : goal.returns-in-Inside-Below
returns-in-Inside-Below c = cases.case_answer _ _ _ (sym c.in-Inside-Below.is-0 ∙ c.position.ensures) (sym c.in-Inside-Below.is-1 ∙ c.position-2.ensures)

pub returns-in-Inside-Inside : goal.returns-in-Inside-Inside
returns-in-Inside-Inside c = cases.case_answer _ _ _ (sym c.in-Inside-Inside.is-0 ∙ c.position.ensures) (sym c.in-Inside-Inside.is-1 ∙ c.position-2.ensures)

pub returns-in-Inside-Above : goal.returns-in-Inside-Above
returns-in-Inside-Above c = cases.case_answer _ _ _ (sym c.in-Inside-Above.is-0 ∙ c.position.ensures) (sym c.in-Inside-Above.is-1 ∙ c.position-2.ensures)

pub returns-in-Above-Below : goal.returns-in-Above-Below
returns-in-Above-Below c = cases.case_answer _ _ _ (sym c.in-Above-Below.is-0 ∙ c.position.ensures) (sym c.in-Above-Below.is-1 ∙ c.position-2.ensures)

pub returns-in-Above-Inside : goal.returns-in-Above-Inside
returns-in-Above-Inside c = cases.case_answer _ _ _ (sym c.in-Above-Inside.is-0 ∙ c.position.ensures) (sym c.in-Above-Inside.is-1 ∙ c.position-2.ensures)

pub returns-in-Above-Above : goal.returns-in-Above-Above
returns-in-Above-Above c = cases.case_answer _ _ _ (sym c.in-Above-Above.is-0 ∙ c.position.ensures) (sym c.in-Above-Above.is-1 ∙ c.position-2.ensures)
