-- `words_at` meets its contract: two words, one after the other.
use mathlib.Core.Path.{ap₂}
use Rattle.configuration.specs.Inner.Place.{words}
use Rattle.search_table.proofs.words_at.Goals as goal

pub returns : goal.returns
returns c = ap₂ words c.word.ensures c.word-2.ensures
