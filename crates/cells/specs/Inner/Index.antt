-- The index of the stored nodes, by chained hashing.
use Rattle.std.specs.Prelude.{◌≡◌, List, ℕ, ◌+◌, ◌*◌, ◌/◌, ◌%◌, ◌≤◌, ◌<◌, length, get_or, Option, Some, None}
use Rattle.std.specs.Int.Bits.{bit_xor}
use Rattle.cells.specs.Cells.{most_cells}
use Rattle.cells.specs.Inner.Columns.{half}

-- a node is two words
pub record Node : Type 0 where
  pub place : ℕ
  pub pattern : ℕ

abbrev pub node : ℕ → ℕ → Node
node p q = record { place = p; pattern = q }

-- the node of entry i
abbrev pub node_at : List ℕ → List ℕ → ℕ → Node
node_at places patterns i = node (get_or places i 0) (get_or patterns i 0)

-- the upper half of a word laid over the lower
unfoldable pub fold_of : ℕ → ℕ
fold_of x = bit_xor x (x / half) % half

-- the bucket of a node: the pattern's lanes but for the first are mixed into half a word, the place and, in steps of a cell, the first lane are
-- added, and the sum is scaled down to the number of cells
unfoldable pub bucket_of : Node → ℕ → ℕ
bucket_of x cells =
    let low = x.pattern / 65536 % 65536 * 2654435769 in
    let high = x.pattern / half * 2246822519 in
    let mixed = fold_of (fold_of (bit_xor low high) * 2654435769) in
    (mixed + x.place % half * 2654435769 + x.pattern % 65536 * (half / cells)) % half * cells / half

-- of the first n entries v names the latest in bucket b: it is i + 1 for entry i, and 0 if there is none
pub record Latest (bucket : ℕ → ℕ) (n b v : ℕ) : Type 0 where
  pub entry : (i : ℕ) → v ≡ i + 1 → (i < n) × (bucket i ≡ b)
  pub least : (j : ℕ) → j < n → bucket j ≡ b → j < v

-- The chain of a bucket runs from its latest entry, which the head names, to ever earlier ones. The head of a bucket that has no entry is
-- anything, and so is the next of a cell that holds none: nothing has to be zeroed.
pub record Chained (bucket : ℕ → ℕ) (heads nexts : List ℕ) (count : ℕ) : Type 0 where
  pub head : (j : ℕ) → j < count → Latest bucket count (bucket j) (get_or heads (bucket j) 0)
  pub next : (i : ℕ) → i < count → Latest bucket i (bucket i) (get_or nexts i 0)

-- the first count of the cells hold nodes, and the chains lead to each of them
pub record Indexed (places patterns heads nexts : List ℕ) (count cells : ℕ) : Type 0 where
  pub some : 0 < cells
  pub few : cells ≤ most_cells
  pub within : count ≤ cells
  pub place_room : cells ≤ length places
  pub pattern_room : cells ≤ length patterns
  pub head_room : cells ≤ length heads
  pub next_room : cells ≤ length nexts
  pub chained : Chained (λ i. bucket_of (node_at places patterns i) cells) heads nexts count

-- x is the node of none of the first count entries
abbrev pub Missing : List ℕ → List ℕ → ℕ → Node → Type 0
Missing places patterns count x = (j : ℕ) → j < count → node_at places patterns j ≡ x → ⊥

-- what is found of x among the first count entries
unfoldable pub FoundIs : List ℕ → List ℕ → ℕ → Node → Option ℕ → Type 0
FoundIs places patterns count x (Some i) = (i < count) × (node_at places patterns i ≡ x)
FoundIs places patterns count x None = Missing places patterns count x
