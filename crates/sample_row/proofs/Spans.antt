-- The lengths of tapes added up, no sum passing the row; and the part of one tape among all of them.
use mathlib.Core.Path.{◌≡◌, ◌∙◌}
use mathlib.Core.List.{List, [], ◌∷◌, ◌++◌}
use Prim.Native.Nat.{ℕ, zero, suc, ◌+◌, ◌-◌, ◌≤◌, ◌<◌}
use native.Mathlib.Omega.{arith}
use native.Mathlib.Numerals.{add-one}
use Rattle.std.proofs.lemmas.Bool.Decides.{nat_tests}
use lib.ListN.{length, get_or, take}
use lib.Seq.{take-suc}
use Rattle.model.specs.Tapes.{total}
use Rattle.sample_row.specs.Part.{span_of}

total-append : (xs ys : List ℕ) → total (xs ++ ys) ≡ total xs + total ys
unfolding total
total-append [] ys = omega arith
total-append (x ∷ xs) ys = omega (arith, total-append xs ys)

pub total_take : (ns : List ℕ) (i : ℕ) → i < length ns → total (take (i + 1) ns) ≡ total (take i ns) + get_or ns i 0
unfolding total
total_take ns i h = rw (add-one, take-suc ns i 0 h) (total-append (take i ns) (get_or ns i 0 ∷ []) ∙ omega arith)

pub total_le : (ns : List ℕ) (i : ℕ) → total (take i ns) ≤ total ns
unfolding total
total_le ns zero = omega arith
total_le [] (suc i) = omega arith
total_le (n ∷ ns) (suc i) = omega (arith, total_le ns i)

-- every part lies in its row
pub span_fits : (ns : List ℕ) (a cells : ℕ) → (span_of ns a cells).start + (span_of ns a cells).count ≤ cells
unfolding span_of
span_fits ns a cells = grind (arith, nat_tests, total_le ns (a - 1 + 1), total_take ns (a - 1))
