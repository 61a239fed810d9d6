-- The work cells that are lent to a search (document 01): a row of cells, each an array of words of 32 bits.
use Rattle.std.specs.Prelude.{List, ℕ, min, length, replicate}

-- so many words has a cell
abbrev pub cell_words : ℕ
cell_words = 10

-- at most so many cells are used
abbrev pub most_cells : ℕ
most_cells = 65536

-- the cells of a row that are used
abbrev pub cells_of : List (List ℕ) → ℕ
cells_of c = min most_cells (length c)

-- the row with 0 in every word of every cell, also past the cells that are used
abbrev pub zeroed : List (List ℕ) → List (List ℕ)
zeroed c = replicate (length c) (replicate cell_words 0)
