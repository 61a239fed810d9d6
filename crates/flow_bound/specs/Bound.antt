-- The bound on the reachable configurations of a flow, and so on the cells that it takes (document 02, T-01).
use Rattle.std.specs.Prelude.{cond, ℕ, ◌*◌, ◌^◌, ltb, length, Option, Some, None}
use Rattle.model.specs.Language.{Flow, C1, C2}
use Rattle.model.specs.Pattern.{width_of}
use Rattle.patterns.specs.Patterns.{patterns_of}
use Rattle.cells.specs.Cells.{most_cells}

-- instructions, times 2 to the power T, times the number of patterns; w counts the whole numbers from C1 to C2
unfoldable pub bound_of : Flow → ℕ
bound_of flow = length flow.instructions * (2 ^ flow.tapes) * patterns_of flow.variables (width_of (C1 flow) (C2 flow))

-- the answer for a bound: `None` if it exceeds the most cells, else the bound
unfoldable pub bound_answer : ℕ → Option ℕ
bound_answer n = cond (ltb most_cells n) None (Some n)
