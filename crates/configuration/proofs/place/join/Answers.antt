-- `place::join` meets its contract: three bits make the number of their digits.
use Rattle.configuration.proofs.Arms as arms
use borrow.Author.Rules.{rules}
use Rattle.configuration.proofs.place.join.Goals as goal

pub returns : goal.returns
returns c = arms.join_three _ _ (search rules)
