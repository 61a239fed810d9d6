-- `place::ended` meets its contract: a tape past the third has no bit.
use mathlib.Core.Path.{◌∙◌}
use borrow.Author.Tests.{le-ltb}
use Rattle.configuration.proofs.Arms as arms
use Rattle.configuration.proofs.place.ended.Goals as goal

pub returns-else-a-lt-MAX_TAPES : goal.returns-else-a-lt-MAX_TAPES
returns-else-a-lt-MAX_TAPES c =
    le-ltb _ _ c.if-a-lt-MAX_TAPES.false ∙ arms.ended-outside c.args.place c.args.a c.if-a-lt-MAX_TAPES.false
