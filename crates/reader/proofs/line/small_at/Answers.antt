-- `line::small_at` meets its contract.
use mir.Syntax.{w64}
use mir.Val.{SFits}
use mir.Facts.{to_z-of_z}
use borrow.Author.Rules.{rules}
use Rattle.reader.proofs.LineLaws.{small_read}
use Rattle.reader.proofs.line.small_at.Goals as goal

pub returns-in_err-number : goal.returns-in_err-number
returns-in_err-number c = rw (← small_read, ← c.get.ensures, ← c.read_number.ensures, c.in_err-number.was) c.from_residual.ensures

pub returns : goal.returns
returns c =
    let f : SFits w64 c.in_ok-number.number = search rules in
    rw (← small_read, ← c.get.ensures, ← c.read_number.ensures, c.in_ok-number.was, c.small.ensures, to_z-of_z f)
