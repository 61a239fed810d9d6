-- `wish_of` meets its contract.
use native.Mathlib.Omega.{arith}
use mir.Facts.{to_z-of_z}
use Rattle.sample.proofs.Numbers.{wish_four}
use Rattle.sample.proofs.wish_of.Goals as goal

pub returns : goal.returns
returns c = grind (arith, to_z-of_z, wish_four c.args.coding.now.w c.args.word c.args.lo c.held.ensures)
