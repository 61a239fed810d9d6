-- `Fields::new` meets its contract: the line is divided as far as it was looked at.
use mathlib.Core.Path.{◌≡◌}
use lib.ListN.{length}
use Rattle.text.specs.Inner.Divided.{kept}
use Rattle.text.proofs.Dividing.{Scanned}
use Rattle.text.proofs.Fields.new.Given as goal

abbrev pub invariant-loop-i : goal.invariant-loop-i
invariant-loop-i l = (length l.ends ≡ kept) × Scanned l.line l.i l.commas l.ends
