-- `tape_maker::read` meets its contract.
use Rattle.tape_maker.proofs.RunLaws.{read_as}
use Rattle.tape_maker.proofs.read.Goals as goal

pub returns : goal.returns
returns c = read_as _ _ c.read.ensures
