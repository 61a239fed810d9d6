-- `tilsando_bound` meets its contract: a refusal that the answer allows has a place that its code can hold.
use mathlib.Core.Path.{sym, ◌∙◌}
use Rattle.tape_maker.proofs.Places.{bound-place}
use Rattle.tilsando.proofs.tilsando_bound.Goals as goal

pub tell_bound-requires : goal.tell_bound-requires
tell_bound-requires c = λ why e. bound-place _ why (sym c.bound-bound.ensures ∙ e)
