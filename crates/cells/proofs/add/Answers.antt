-- `cells::add` meets its contract: the entry is written, and its bucket's head leads to it (proofs/Entering.antt).
use native.Mathlib.Omega.{arith}
use Rattle.cells.proofs.Entering.{filled-room, added, filled_more}
use Rattle.cells.proofs.add.Goals as goal

pub enter-requires : goal.enter-requires
enter-requires c = omega (arith, filled-room _ c.requires.filled_in, c.requires.count_lt_size)

pub put-requires : goal.put-requires
put-requires c = (omega (arith, filled-room _ c.requires.filled_in, c.bucket-h.ensures.1, c.enter.auto), omega arith)

pub returns-clause-added : goal.returns-clause-added
returns-clause-added c = added _ _ _ _ _ _ _ _ _ _ _ c.requires.filled_in c.requires.count_lt_size c.bucket-h.ensures.0 c.first-next.ensures c.enter.ensures c.put.ensures

pub returns-clause-filled_in_2 : goal.returns-clause-filled_in_2
returns-clause-filled_in_2 c = filled_more _ _ _ _ _ _ _ _ _ _ _ c.requires.filled_in c.requires.count_lt_size c.bucket-h.ensures.0 c.first-next.ensures c.enter.ensures c.put.ensures
