-- Graphs with labelled edges, their paths, and the least cost of a path that ends with a wanted edge.
use Rattle.std.specs.Prelude.{◌≡◌, ℕ, ◌+◌, ◌≤◌}

-- nodes A, labels L: a start, the edges, and what an edge costs by its label
pub record Graph (A L : Type 0) : Type 1 where
  pub start : A
  pub Edge : A → L → A → Type 0
  pub cost : L → ℕ

-- edges of total cost n lead from the start to x
pub data Path {A L : Type 0} (G : Graph A L) : ℕ → A → Type 0 where
  here : Path G 0 G.start
  onward : {n k : ℕ} {x y : A} {l : L} → Path G n x → G.Edge x l y → k ≡ n + G.cost l → Path G k y

-- some path leads to x
abbrev pub Reached : {A L : Type 0} → Graph A L → A → Type 0
Reached G x = (n : ℕ) × Path G n x

-- a path of total cost d ends with a wanted edge; the cost of that edge is included
pub record ExitPath {A L : Type 0} (G : Graph A L) (Wanted : A → L → Type 0) (d : ℕ) : Type 0 where
  pub from : A
  pub label : L
  pub target : A
  pub before : ℕ
  pub path : Path G before from
  pub edge : G.Edge from label target
  pub wanted : Wanted from label
  pub total : d ≡ before + G.cost label

-- the distance to the wanted edges is d: a path of cost d ends with one, and none of less
pub record ExitDistance {A L : Type 0} (G : Graph A L) (Wanted : A → L → Type 0) (d : ℕ) : Type 0 where
  pub exit : ExitPath G Wanted d
  pub least : (n : ℕ) → ExitPath G Wanted n → d ≤ n

-- the distance is none: no path ends with a wanted edge
abbrev pub NoExit : {A L : Type 0} → Graph A L → (A → L → Type 0) → Type 0
NoExit G Wanted = (n : ℕ) → ExitPath G Wanted n → ⊥
