-- A test that tells no numbers apart from some size on gives the same answer for a number that is cut there; and what the reader's answer
-- says of the number that is written.
use mathlib.Core.Path.{◌≡◌, refl, sym, ap, ◌∙◌}
use mathlib.Core.Bool.{Bool}
use Rattle.std.specs.Prelude.{Option, None, Some, option_map}
use Prim.Native.Nat.{ℕ, ◌≤◌, min}
use native.Mathlib.Decide.{dec_le}
use native.Mathlib.Omega.{arith}
use lib.IntN.{ℤ}
use Rattle.text.specs.Inner.Capped.{capped}

pub none_no_some : {A : Type 0} {x : A} → None ≡ Some x → ⊥
none_no_some e = cc

pub test_cut : (test : ℕ → Bool) (out : Bool) (m n : ℕ) → ((k : ℕ) → m ≤ k → test k ≡ out) → test (min n m) ≡ test n
test_cut test out m n beyond = by (dec_le n m)
  where
    by : Dec (n ≤ m) → test (min n m) ≡ test n
    by (yes h) = let whole : min n m ≡ n = omega arith in ap test whole
    by (no h) =
        let cut : min n m ≡ m = omega arith in
        ap test cut ∙ beyond m (omega arith) ∙ sym (beyond n (omega arith))

pub number_bad : (written : Option ℤ) → option_map capped written ≡ None → written ≡ None
number_bad None e = refl
number_bad (Some z) e = cc

pub number-value : (written : Option ℤ) (v : ℤ) → option_map capped written ≡ Some v → (z : ℤ) × (written ≡ Some z) × (v ≡ capped z)
number-value None v e = cc
number-value (Some z) v e = (z, refl, cc)
