-- `tilsando_report` meets its contract: a refusal that the answer allows has a place that its code can hold.
use Rattle.tape_maker.proofs.Places.{report_place}
use Rattle.tilsando.proofs.tilsando_report.Goals as goal

pub tell_report-requires : goal.tell_report-requires
tell_report-requires c = report_place _ _ _ _ c.report-report.ensures
