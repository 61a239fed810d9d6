-- `tilsando_run` meets its contract: a refusal that the answer allows has a place that its code can hold.
use Rattle.tape_maker.proofs.Places.{run-place}
use Rattle.tilsando.proofs.tilsando_run.Goals as goal

pub tell_run-requires : goal.tell_run-requires
tell_run-requires c = run-place _ _ _ _ _ _ _ _ _ c.run-ran.ensures
