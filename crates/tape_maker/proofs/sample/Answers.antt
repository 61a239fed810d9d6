-- `tape_maker::sample` meets its contract: what the text is answered, and the cells zeroed if that is a refusal.
use Rattle.tape_maker.proofs.SampleLaws.{sample-is}
use Rattle.tape_maker.proofs.sample.Goals as goal

pub returns : goal.returns
returns c = sample-is _ _ _ _ c.answer-sample.new.cells _ _ _ _ c.answer-sample.ensures c.answer-sample.auto.cells c.is_err.ensures.value c.release.ensures
