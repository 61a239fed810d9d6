-- The way of parents from an entry back to the first.
use Rattle.std.specs.Prelude.{◌≡◌, List, ℕ, zero, suc, ◌+◌, ◌≤◌, ◌<◌, length, get_or}
use Rattle.cells.specs.Cells.{most_cells}

-- of n entries, each but the first has its parent before it
pub record Parents (parents : List ℕ) (n : ℕ) : Type 0 where
  pub few : n ≤ most_cells
  pub room : n ≤ length parents
  pub before : (i : ℕ) → 0 < i → i < n → get_or parents i 0 < i

-- the entry that is s parents up from entry i
unfoldable pub ancestor : List ℕ → (s i : ℕ) → ℕ
ancestor parents zero i = i
ancestor parents (suc s) i = get_or parents (ancestor parents s i) 0

-- the first entry is s parents up from entry `at`, and not fewer
pub record Depth (parents : List ℕ) (at s : ℕ) : Type 0 where
  pub first : ancestor parents s at ≡ 0
  pub later : (t : ℕ) → t < s → 0 < ancestor parents t at

-- path holds the way by steps: from the first entry, each the parent of the next, to entry `at`
pub record Traced (parents path : List ℕ) (n at last : ℕ) : Type 0 where
  pub starts : get_or path 0 0 ≡ 0
  pub ends : get_or path last 0 ≡ at
  pub entry : (t : ℕ) → t ≤ last → get_or path t 0 < n
  pub later : (t : ℕ) → 0 < t → t ≤ last → 0 < get_or path t 0
  pub link : (t : ℕ) → t < last → get_or parents (get_or path (t + 1) 0) 0 ≡ get_or path t 0
