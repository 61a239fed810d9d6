-- A number within the bounds of a row fits 32 bits.
use mathlib.Core.Path.{◌≡◌}
use mathlib.Core.Bool.{false}
use native.Mathlib.Omega.{arith}
use borrow.Author.Tests.{ltb-false}
use lib.IntN.{ℤ, pos, negsuc}
use lib.Signed.{lt_z}
use mir.Syntax.{w32}
use mir.Val.{SFits}

pub bounded_fits : (z : ℤ) → lt_z z (negsuc 99999) ≡ false → lt_z (pos 100000) z ≡ false → SFits w32 z
bounded_fits (pos n) h k = record { sfits = omega (arith, ltb-false 100000 n k) }
bounded_fits (negsuc n) h k = record { sfits = omega (arith, ltb-false 99999 n h) }
