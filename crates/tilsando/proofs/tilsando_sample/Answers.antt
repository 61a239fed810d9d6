-- `tilsando_sample` meets its contract: a refusal that the answer allows has a place that its code can hold.
use Rattle.tape_maker.proofs.Places.{sample-place}
use Rattle.tilsando.proofs.tilsando_sample.Goals as goal

pub tell_sample-requires : goal.tell_sample-requires
tell_sample-requires c = sample-place c.sample-sample.ensures
