-- The row while its tapes are written: the part of each tape has a start, and its first cells, as many as its count, hold the records so far.
use Rattle.std.specs.Prelude.{◌≡◌, List, [], ◌∷◌, ◌++◌, map, ℕ, ◌+◌, ◌≤◌, ℤ, take, drop}

-- the records so far
unfoldable pub tapes_at : (starts counts : List ℕ) → List ℤ → List (List ℤ)
tapes_at [] ks row = []
tapes_at (s ∷ ss) [] row = []
tapes_at (s ∷ ss) (k ∷ ks) row = take k (drop s row) ∷ tapes_at ss ks row

-- f on k numbers of the row from s on, and on all records so far
abbrev pub on_part : (ℤ → ℤ) → (s k : ℕ) → List ℤ → List ℤ
on_part f s k row = take s row ++ (map f (take k (drop s row)) ++ drop k (drop s row))

unfoldable pub on_parts : (ℤ → ℤ) → (starts counts : List ℕ) → List ℤ → List ℤ
on_parts f [] ks row = row
on_parts f (s ∷ ss) [] row = row
on_parts f (s ∷ ss) (k ∷ ks) row = on_parts f ss ks (on_part f s k row)

-- what is written lies apart, from cell `from` on, in a row of so many cells
abbrev pub Apart : (from : ℕ) → (starts counts : List ℕ) → (cells : ℕ) → Type 0
Apart from [] ks cells = from ≤ cells
Apart from (s ∷ ss) [] cells = from ≤ cells
Apart from (s ∷ ss) (k ∷ ks) cells = (from ≤ s) × Apart (s + k) ss ks cells

-- the parts follow directly after one another, from cell `from` on, each with as many cells as its size, and no count exceeds its size
abbrev pub Laid : (from : ℕ) → (starts counts sizes : List ℕ) → Type 0
Laid from [] ks ms = (ks ≡ []) × (ms ≡ [])
Laid from (s ∷ ss) [] ms = ⊥
Laid from (s ∷ ss) (k ∷ ks) [] = ⊥
Laid from (s ∷ ss) (k ∷ ks) (m ∷ ms) = (s ≡ from) × (k ≤ m) × Laid (from + m) ss ks ms
