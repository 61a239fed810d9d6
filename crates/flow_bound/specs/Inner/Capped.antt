-- Numbers cut off past the most cells.
use Rattle.std.specs.Prelude.{ℕ, suc, min}
use Rattle.cells.specs.Cells.{most_cells}

-- one more than the most cells
abbrev pub cells_cap : ℕ
cells_cap = suc most_cells

-- n, cut off there
abbrev pub capped_cells : ℕ → ℕ
capped_cells n = min n cells_cap
