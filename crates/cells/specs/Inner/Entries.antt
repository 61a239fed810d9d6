-- The entries that the rows hold: a node, its distance, its parent and its bucket each.
use Rattle.std.specs.Prelude.{◌≡◌, false, List, ℕ, ◌≤◌, ◌<◌, length, get_or, set}
use Rattle.cells.specs.Inner.Columns.{place_field, pattern_field, word_column, Rows, columns_of}
use Rattle.cells.specs.Inner.Index.{Node, node_at, bucket_of, Latest, Indexed}
use Rattle.cells.specs.Inner.Marks.{is_marked}

pub record Entries : Type 0 where
  pub places : List ℕ
  pub patterns : List ℕ
  pub distances : List ℕ
  pub parents : List ℕ
  pub buckets : List ℕ

abbrev pub entries : List ℕ → List ℕ → List ℕ → List ℕ → List ℕ → Entries
entries a b c d e = record { places = a; patterns = b; distances = c; parents = d; buckets = e }

-- the entries among the rows
abbrev pub entries_of : Rows → Entries
entries_of r = entries r.places r.patterns r.distances r.parents r.buckets

abbrev pub node_of : Entries → ℕ → Node
node_of e i = node_at e.places e.patterns i

abbrev pub distance_of : Entries → ℕ → ℕ
distance_of e i = get_or e.distances i 0

abbrev pub parent_of : Entries → ℕ → ℕ
parent_of e i = get_or e.parents i 0

-- the first count of the cells hold entries, each with its bucket, and the index leads to each
pub record Filled (e : Entries) (heads nexts : List ℕ) (count cells : ℕ) : Type 0 where
  pub index : Indexed e.places e.patterns heads nexts count cells
  pub bucket : (i : ℕ) → i < count → get_or e.buckets i 0 ≡ bucket_of (node_of e i) cells
  pub distance_room : cells ≤ length e.distances
  pub parent_room : cells ≤ length e.parents

abbrev pub FilledIn : List (List ℕ) → (count cells : ℕ) → Type 0
FilledIn c count cells = Filled (entries_of (columns_of c)) (columns_of c).heads (columns_of c).nexts count cells

-- of the first count entries v names the latest in bucket b
abbrev pub LatestIn : List (List ℕ) → (count cells b v : ℕ) → Type 0
LatestIn c count cells b v = Latest (λ i. bucket_of (node_at (word_column place_field c) (word_column pattern_field c) i) cells) count b v

-- e' is e with one entry more, the node x as entry count
pub record Added (e e' : Entries) (count : ℕ) (x : Node) (distance parent : ℕ) : Type 0 where
  pub places : e'.places ≡ set e.places count x.place
  pub patterns : e'.patterns ≡ set e.patterns count x.pattern
  pub distances : e'.distances ≡ set e.distances count distance
  pub parents : e'.parents ≡ set e.parents count parent

-- the start is the only entry, and it is not marked
pub record Begun (e : Entries) (heads nexts fans : List ℕ) (cells : ℕ) (start : Node) : Type 0 where
  pub filled : Filled e heads nexts 1 cells
  pub node : node_of e 0 ≡ start
  pub distance : distance_of e 0 ≡ 0
  pub parent : parent_of e 0 ≡ 0
  pub unmarked : (v : ℕ) → is_marked fans 0 v ≡ false

abbrev pub BegunIn : List (List ℕ) → (cells : ℕ) (start : Node) → Type 0
BegunIn c cells start = Begun (entries_of (columns_of c)) (columns_of c).heads (columns_of c).nexts (columns_of c).fans cells start
