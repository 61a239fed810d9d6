-- `adds_up` meets its contract: the lengths to come add up to what is left where all add up to the size.
use mathlib.Core.Path.{◌≡◌}
use lib.Dec.{eqb}
use lib.ListN.{drop}
use Rattle.model.specs.Tapes.{total}
use Rattle.tape_maker.proofs.running.adds_up.Given as goal

abbrev pub invariant-loop-length : goal.invariant-loop-length
invariant-loop-length l = eqb (total (drop l.length-index l.lengths)) l.left ≡ eqb (total l.lengths) l.size
