-- `tell_report` meets its contract, by the answer: proofs/Telling.antt.
use mathlib.Core.Path.{refl, sym, ap}
use borrow.Author.Rules.{rules}
use Rattle.tilsando.specs.Exports.{report_values}
use Rattle.tilsando.proofs.Telling.{told_none, told_row, told_refused, told_as}
use Rattle.tilsando.proofs.told.tell_report.Goals as goal

pub returns-in-Err : goal.returns-in-Err
returns-in-Err c = told_as _ _ _ _ _ _ (ap report_values (sym c.in-Err.is)) (told_refused _ _ _ _ c.code.ensures)

pub returns-in-Ok : goal.returns-in-Ok
returns-in-Ok c = told_as _ _ _ _ _ _ (ap report_values (sym c.in-Ok.is))
    (told_row _ _ _ _ _ _ _ _ _ (search rules) (rw c.flags.ensures at c.lay.ensures)
    (told_row _ c.in-Ok.report.p _ _ _ _ _ _ _ (search rules) c.lay-in-Ok.ensures
    (told_row _ c.in-Ok.report.m _ _ _ _ _ _ _ (search rules) c.lay-in-Ok-2.ensures
    (told_row _ _ _ _ _ _ _ _ _ refl c.lay-in-Ok-3.ensures told_none))))
