-- `tell_sample` meets its contract, by the answer: proofs/Telling.antt.
use mathlib.Core.Path.{sym, ap, ◌∙◌}
use mathlib.Core.List.{List, [], ◌∷◌}
use Prim.Native.Nat.{ℕ}
use borrow.Author.Rules.{rules}
use Rattle.std.specs.Prelude.{Ok}
use Rattle.tilsando.specs.Exports.{sample_values}
use Rattle.tilsando.proofs.Telling.{told_none, told_row, told_refused, told_as}
use Rattle.tilsando.proofs.told.tell_sample.Goals as goal

pub returns-in-Err : goal.returns-in-Err
returns-in-Err c = told_as _ _ _ _ _ _ (ap sample_values (sym c.in-Err.is)) (told_refused _ _ _ _ c.code.ensures)

pub returns-in-Ok : goal.returns-in-Ok
returns-in-Ok c = told_as _ _ _ _ _ _ (ap (λ (l : List ℕ). Ok (l ∷ [])) c.drawn.ensures ∙ ap sample_values (sym c.in-Ok.is))
    (told_row 5 c.drawn.result _ _ [] [] [] [] 0 (search rules) c.lay.ensures told_none)
