-- A table of a search: entries by index, each a node with its distance and the entry it was first met from. It is given by
-- functions of the index, so that rows, lists and records all make one.
use Rattle.std.specs.Prelude.{◌≡◌, Bool, true, ℕ, ◌+◌, ◌<◌, ◌≤◌}
use Rattle.graph.specs.Inner.Graph.{Graph}

-- no two of the first n are the same
abbrev pub Different : {A : Type 0} → (ℕ → A) → ℕ → Type 0
Different f n = (i j : ℕ) → i < j → j < n → f i ≡ f j → ⊥

pub record Table (A : Type 0) : Type 0 where
  pub count : ℕ
  pub node : ℕ → A
  pub dist : ℕ → ℕ
  pub parent : ℕ → ℕ

-- y is an entry's node
pub record Held {A : Type 0} (t : Table A) (y : A) : Type 0 where
  pub at : ℕ
  pub below : at < t.count
  pub is : t.node at ≡ y

-- y is an entry's node, at a distance of at most d
pub record StoredNear {A : Type 0} (t : Table A) (y : A) (d : ℕ) : Type 0 where
  pub at : ℕ
  pub below : at < t.count
  pub is : t.node at ≡ y
  pub near : t.dist at ≤ d

-- an edge leads to entry i from its parent, an earlier entry, and makes up the difference of their distances
pub record Child {A L : Type 0} (G : Graph A L) (t : Table A) (i : ℕ) : Type 0 where
  pub before : t.parent i < i
  pub label : L
  pub edge : G.Edge (t.node (t.parent i)) label (t.node i)
  pub further : t.dist i ≡ t.dist (t.parent i) + G.cost label

-- entry 0 is the start, no node stands twice, and each later entry has its parent: so each is reached at its distance
pub record Sound {A L : Type 0} (G : Graph A L) (t : Table A) : Type 0 where
  pub some : 0 < t.count
  pub origin : t.node 0 ≡ G.start
  pub origin_dist : t.dist 0 ≡ 0
  pub origin_parent : t.parent 0 ≡ 0
  pub different : Different t.node t.count
  pub child : (i : ℕ) → 0 < i → i < t.count → Child G t i

-- each edge of entry i leads to a stored node, no further than the edge says
abbrev pub Expanded : {A L : Type 0} → Graph A L → Table A → ℕ → Type 0
Expanded {A} {L} G t i = (l : L) (y : A) → G.Edge (t.node i) l y → StoredNear t y (t.dist i + G.cost l)

-- the entries before k are expanded
abbrev pub Closed : {A L : Type 0} → Graph A L → Table A → ℕ → Type 0
Closed G t k = (i : ℕ) → i < k → Expanded G t i

-- distances never fall along the index
abbrev pub Sorted : (ℕ → ℕ) → ℕ → Type 0
Sorted dist n = (i j : ℕ) → i ≤ j → j < n → dist i ≤ dist j

-- y is no entry's node
abbrev pub Fresh : {A : Type 0} → Table A → A → Type 0
Fresh t y = (j : ℕ) → j < t.count → t.node j ≡ y → ⊥

-- ---- a table that grows: the entries so far stay
pub record Extends {A : Type 0} (t t' : Table A) : Type 0 where
  pub more : t.count ≤ t'.count
  pub nodes : (i : ℕ) → i < t.count → t'.node i ≡ t.node i
  pub dists : (i : ℕ) → i < t.count → t'.dist i ≡ t.dist i
  pub parents : (i : ℕ) → i < t.count → t'.parent i ≡ t.parent i

-- one entry more: y at distance d from parent p
pub record Pushed {A : Type 0} (t t' : Table A) (y : A) (d p : ℕ) : Type 0 where
  pub old : Extends t t'
  pub one : t'.count ≡ t.count + 1
  pub node : t'.node t.count ≡ y
  pub dist : t'.dist t.count ≡ d
  pub parent : t'.parent t.count ≡ p

-- the second table is t with entries added behind it; each is S, was not stored before, and has distance d and parent p
pub data Grows {A : Type 0} (S : A → Type 0) (d p : ℕ) (t : Table A) : Table A → Type 0 where
  none : Grows S d p t t
  more : {t' t'' : Table A} {y : A} → Grows S d p t t' → S y → Fresh t' y → Pushed t' t'' y d p → Grows S d p t t''

-- ---- a search in the order of distance, where an edge costs 0 or 1
-- what the edges of entry i that cost nothing lead to is stored, no further than entry i
abbrev pub Settled : {A L : Type 0} → Graph A L → Table A → ℕ → Type 0
Settled {A} {L} G t i = (l : L) (y : A) → G.Edge (t.node i) l y → G.cost l ≡ 0 → StoredNear t y (t.dist i)

-- c entries are settled, and k of them are expanded; distances never fall along the index, and none exceeds that of entry c, nor that of
-- entry k by more than 1
pub record Searching {A L : Type 0} (G : Graph A L) (t : Table A) (c k : ℕ) : Type 0 where
  pub sound : Sound G t
  pub bound : k ≤ c
  pub within : c ≤ t.count
  pub sorted : Sorted t.dist t.count
  pub last : c < t.count → (i : ℕ) → i < t.count → t.dist i ≤ t.dist c
  pub level : k < t.count → (i : ℕ) → i < t.count → t.dist i ≤ t.dist k + 1
  pub settled : (i : ℕ) → i < c → Settled G t i
  pub closed : Closed G t k

-- no entry before k takes
abbrev pub NoneBefore : (ℕ → Bool) → ℕ → Type 0
NoneBefore takes k = (j : ℕ) → j < k → takes j ≡ true → ⊥
