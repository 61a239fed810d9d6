-- `text::read_digits` meets its contract: the field is read as the digits from b's place on are, behind the size so far.
use mathlib.Core.Path.{◌≡◌}
use Prim.Native.Nat.{◌≤◌}
use lib.ListN.{drop}
use Rattle.text.specs.Number.{digits_after}
use Rattle.text.specs.Inner.Capped.{cap}
use Rattle.text.proofs.Digits.{answer}
use Rattle.text.proofs.read_digits.Given as goal

abbrev pub invariant-loop-b : goal.invariant-loop-b
invariant-loop-b l = (l.n ≤ cap) × (answer (digits_after l.n (drop l.b-index l.f)) ≡ answer (digits_after 0 l.f))
