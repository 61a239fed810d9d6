-- `word` meets its contract: the codes, stored and packed.
use Rattle.pattern_word.proofs.FourLanes as lanes
use borrow.Author.Rules.{rules}
use Rattle.pattern_word.proofs.Coding.word.Goals as goal

pub pack-requires : goal.pack-requires
pack-requires c = lanes.word_below _ c.args.self.now.width _ _ _ (search rules) c.codes.ensures c.store.ensures
