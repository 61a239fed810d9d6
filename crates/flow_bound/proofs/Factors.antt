-- The factors of the bound of a legal flow, as the code has them: its width is within the numbers that are not cut off, and its instructions
-- are counted by its rows.
use mathlib.Core.Path.{◌≡◌, sym, ◌∙◌}
use Prim.Native.Nat.{ℕ, ◌≤◌}
use lib.ListN.{length, take, length-map}
use lib.Signed.{le_z}
use lib.Dec.{T}
use Rattle.model.specs.Language.{Flow, C1, C2}
use Rattle.model.specs.Pattern.{width_of}
use Rattle.model.proofs.Integers.{zarith}
use Rattle.model.proofs.Constants.{zero_basic}
use Rattle.flow.specs.Legal.{Legal}
use Rattle.flow.proofs.LimitLaws.{legal-limited}
use Rattle.constants.proofs.Offsets.{offset-is}
use Rattle.constants.specs.Inner.Constants.{offset}
use Rattle.flow.specs.Inner.Rows.{flow_of, instruction_of}
use Rattle.flow.specs.declared.Flow.{Flow as Rows}
use Rattle.flow_bound.specs.Inner.Capped.{cells_cap}

pub legal-width : (flow : Flow) → Legal flow → width_of (C1 flow) (C2 flow) ≤ cells_cap
unfolding width_of offset
legal-width flow l =
    let ((a, b), (c, d)) = legal-limited flow l in
    let z = zero_basic flow in
    let k : T (le_z (C1 flow) (C2 flow)) = let g = z.low in let h = z.high in omega zarith in
    omega (zarith, offset-is (C2 flow) (C1 flow) k)

pub rows-count : (rows : Rows) (r : ℕ) → r ≡ length (take rows.count rows.instructions) → r ≡ length (flow_of rows).instructions
unfolding flow_of
rows-count rows r e = e ∙ sym (length-map (take rows.count rows.instructions) instruction_of)
