-- `pack` meets its contract: four codes, each below a lane, make a word of 64 bits.
use Rattle.pattern_word.proofs.FourLanes as lanes
use borrow.Author.Rules.{rules}
use Rattle.pattern_word.proofs.pack.Goals as goal

pub returns : goal.returns
returns c = lanes.pack_four _ (search rules)
