-- The test of two values for being equal, neither less than the other, passes if and only if they are equal.
use mathlib.Core.Path.{◌≡◌}
use mathlib.Core.Bool.{not}
use lib.IntN.{ℤ}
use lib.Signed.{lt_z}
use lib.Dec.{T}
use Rattle.model.specs.Pattern.{equal}
use Rattle.model.proofs.Integers.{zarith, and_in, and_out}

pub equal_in : (x y : ℤ) → T (equal x y) → x ≡ y
equal_in x y h = let (p, q) = and_in (not (lt_z x y)) (not (lt_z y x)) h in omega zarith

pub equal_out : (x y : ℤ) → x ≡ y → T (equal x y)
equal_out x y e = and_out (not (lt_z x y)) (not (lt_z y x)) (omega zarith) (omega zarith)
