-- `tape_maker::report` meets its contract: what the text is answered, and the cells zeroed if that is a refusal.
use Rattle.tape_maker.proofs.ReportLaws.{report_is}
use Rattle.tape_maker.proofs.report.Goals as goal

pub returns : goal.returns
returns c = report_is _ _ c.answer-report.new.cells _ _ c.answer-report.ensures c.answer-report.auto.cells c.is_err.ensures.value c.release.ensures
