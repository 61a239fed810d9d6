-- `tell_run` meets its contract, by the answer: proofs/Telling.antt.
use mathlib.Core.Path.{refl, sym, ap}
use borrow.Author.Rules.{rules}
use Rattle.tilsando.specs.Exports.{run_values}
use Rattle.tilsando.proofs.Telling.{told_none, told_row, told_refused, told_as}
use Rattle.tilsando.proofs.told.tell_run.Goals as goal

pub returns-in-Err : goal.returns-in-Err
returns-in-Err c = told_as _ _ _ _ _ _ (ap run_values (sym c.in-Err.is)) (told_refused _ _ _ _ c.code.ensures)

pub returns-in-Ok : goal.returns-in-Ok
returns-in-Ok c = told_as _ _ _ _ _ _ (ap run_values (sym c.in-Ok.is))
    (told_row _ c.in-Ok.run'.p _ _ _ _ _ _ _ (search rules) c.lay.ensures
    (told_row _ c.in-Ok.run'.m _ _ _ _ _ _ _ (search rules) c.lay-in-Ok.ensures
    (told_row _ _ _ _ _ _ _ _ _ refl (rw c.end_number.ensures at c.lay-in-Ok-2.ensures) told_none)))
