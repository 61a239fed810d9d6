-- A bucket is one of the cells: half a word times the number of cells, of which the upper half is taken, stays below that number.
use mathlib.Core.Path.{◌≡◌}
use Prim.Native.Nat.{ℕ, ◌*◌, ◌/◌, ◌%◌, ◌≤◌, ◌<◌}
use native.Mathlib.Nat.{mod-lt, div-lt_iff_lt-mul, mul-lt-mul_of_pos_right, mul-le-mul, le_of_lt, div-le_self}
use native.Mathlib.Omega.{arith}
use mir.Syntax as syntax
use mir.Val.{Fits}
use Rattle.cells.specs.Cells.{most_cells}
use Rattle.cells.specs.Inner.Columns.{half}
use Rattle.cells.specs.Inner.Index.{Node, fold_of, bucket_of}

fold-below : (x : ℕ) → fold_of x < half
unfolding fold_of
fold-below x = mod-lt _ (omega arith)

pub half-word : (r x : ℕ) → r ≡ fold_of x → r < half
half-word r x e = rw e (fold-below x)

pub scaled_below : (h cells : ℕ) → h < half → 0 < cells → h * cells / half < cells
scaled_below h cells l some =
    (div-lt_iff_lt-mul {k = half} {x = h * cells} {y = cells} (omega arith)).1
    (omega (arith, mul-lt-mul_of_pos_right {m = h} {n = half} {k = cells} l some))

pub bucket-below : (x : Node) (cells : ℕ) → 0 < cells → bucket_of x cells < cells
unfolding bucket_of
bucket-below x cells some = scaled_below _ cells (mod-lt _ (omega arith)) some

-- a lane in steps of a cell
pub steps-few : (pattern cells : ℕ) → pattern % 65536 * (half / cells) ≤ 65536 * half
steps-few pattern cells =
    mul-le-mul {n₁ = pattern % 65536} {m₁ = half / cells} {n₂ = 65536} {m₂ = half} (le_of_lt (mod-lt pattern (omega arith))) (div-le_self half cells)

-- the product fits a word
pub scaled_fits : (h cells : ℕ) → h < half → cells ≤ most_cells → Fits syntax.w64 (h * cells)
scaled_fits h cells l few =
    record { fits = omega (arith, mul-le-mul {n₁ = h} {m₁ = cells} {n₂ = half} {m₂ = 65536} (le_of_lt l) few) }
