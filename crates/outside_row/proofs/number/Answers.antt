-- `outside_row::number` meets its contract: proofs/Ranks.antt, computed for each of the eight ranks.
use Rattle.outside_row.proofs.Ranks.{sum_fits, digit_fits, number-above, number-below}
use Rattle.outside_row.proofs.number.Goals as goal

pub overflow_add-d : goal.overflow_add-d
overflow_add-d c = sum_fits c.args.r c.requires

pub overflow_cast-d : goal.overflow_cast-d
overflow_cast-d c = digit_fits c.args.r c.requires

pub returns-then-d-gt4 : goal.returns-then-d-gt4
returns-then-d-gt4 c = number-above c.args.r c.requires c.if-d-gt4.true

pub returns-else-d-gt4 : goal.returns-else-d-gt4
returns-else-d-gt4 c = number-below c.args.r c.requires c.if-d-gt4.false
