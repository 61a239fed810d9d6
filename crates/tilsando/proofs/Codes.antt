-- What a caller reads off the code of a refusal: it is not 0, and it holds the place above the number.
use mathlib.Core.Path.{◌≡◌}
use Prim.Native.Nat.{◌≤◌, ◌/◌, ◌%◌}
use native.Mathlib.Omega.{arith}
use Rattle.flow.specs.Refusals.{number_of, place_of}
use Rattle.flow.specs.declared.Refusal.{Refusal}
use Rattle.flow.proofs.Numbers.{number-first, number-last}
use Rattle.tilsando.specs.Exports.{code_of}

pub code_parts : (why : Refusal) → (1 ≤ code_of why) × (code_of why / 256 ≡ place_of why) × (code_of why % 256 ≡ number_of why)
code_parts why =
    let n = number-first why in
    let l = number-last why in
    (omega arith, omega arith, omega arith)
