-- `tell_bound` meets its contract, by the answer: proofs/Telling.antt.
use mathlib.Core.Path.{◌≡◌, refl, sym, ap, ◌∙◌}
use mathlib.Core.List.{[], ◌∷◌}
use Prim.Native.Nat.{ℕ}
use Rattle.std.specs.Prelude.{Option, Some, None, Ok, unwrap_or}
use Rattle.tilsando.specs.Exports.{bound_values}
use Rattle.tilsando.proofs.Telling.{told_none, told_row, told_refused, told_as}
use Rattle.tilsando.proofs.told.tell_bound.Goals as goal

-- the number of a bound, 0 for none
value : (b : Option ℕ) → Ok ((unwrap_or b 0 ∷ []) ∷ []) ≡ bound_values (Ok b)
value (Some n) = refl
value None = refl

pub returns-in-Err : goal.returns-in-Err
returns-in-Err c = told_as _ _ _ _ _ _ (ap bound_values (sym c.in-Err.is)) (told_refused _ _ _ _ c.code.ensures)

pub returns-in-Ok : goal.returns-in-Ok
returns-in-Ok c = told_as _ _ _ _ _ _ (ap (λ (n : ℕ). Ok ((n ∷ []) ∷ [])) c.unwrap_or.ensures ∙ value c.in-Ok.bound ∙ ap bound_values (sym c.in-Ok.is))
    (told_row 1 _ _ _ [] [] [] [] 0 refl c.lay.ensures told_none)
