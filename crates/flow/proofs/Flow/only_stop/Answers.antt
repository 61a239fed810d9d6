-- `flow::Flow::only_stop` meets its contract.
use Rattle.flow.specs.Code.{rows_of}
use Rattle.flow.proofs.Flow.only_stop.Goals as goal

pub returns : goal.returns
unfolding rows_of
returns c = rw (c.new.ensures, c.stop.ensures)
