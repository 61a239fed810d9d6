-- What the cells hold, field by field: a column is one field of every cell.
use Rattle.std.specs.Prelude.{◌≡◌, List, map, ℕ, ◌+◌, ◌*◌, get_or, set}

-- how many numbers half a word of 64 bits holds
abbrev pub half : ℕ
half = 4294967296

-- Which field is where: a place and a pattern take two words each. The way of a sample takes the place of the marks, which only a search
-- needs.
abbrev pub place_field : ℕ
place_field = 0

abbrev pub pattern_field : ℕ
pattern_field = 2

abbrev pub distance_field : ℕ
distance_field = 4

abbrev pub parent_field : ℕ
parent_field = 5

abbrev pub head_field : ℕ
head_field = 6

abbrev pub next_field : ℕ
next_field = 7

abbrev pub marks_field : ℕ
marks_field = 8

abbrev pub way_field : ℕ
way_field = 8

abbrev pub bucket_field : ℕ
bucket_field = 9

-- field f of every cell; the word of 64 bits in fields f and f + 1 of every cell, its lower half first
unfoldable pub column : ℕ → List (List ℕ) → List ℕ
column f cells = map (λ c. get_or c f 0) cells

unfoldable pub word_column : ℕ → List (List ℕ) → List ℕ
word_column f cells = map (λ c. get_or c f 0 + get_or c (f + 1) 0 * half) cells

-- the columns that a search fills: a configuration's two words, its distance, the entry that it was met from; the head of a bucket; the next in
-- its bucket, its marks, and its bucket
pub record Rows : Type 0 where
  pub places : List ℕ
  pub patterns : List ℕ
  pub distances : List ℕ
  pub parents : List ℕ
  pub heads : List ℕ
  pub nexts : List ℕ
  pub fans : List ℕ
  pub buckets : List ℕ

abbrev pub columns_of : List (List ℕ) → Rows
columns_of c =
    record {
      places = word_column place_field c;
      patterns = word_column pattern_field c;
      distances = column distance_field c;
      parents = column parent_field c;
      heads = column head_field c;
      nexts = column next_field c;
      fans = column marks_field c;
      buckets = column bucket_field c;
    }

-- every field but f is as it was
abbrev pub Only : ℕ → (c c' : List (List ℕ)) → Type 0
Only f c c' = (g : ℕ) → (g ≡ f → ⊥) → column g c' ≡ column g c

-- x is stored in field f of cell i
pub record Stored (f i x : ℕ) (c c' : List (List ℕ)) : Type 0 where
  pub is : column f c' ≡ set (column f c) i x
  pub other : Only f c c'

-- an entry is written into cell i, with its bucket and the next in it, and unmarked
pub record Entered (i place pattern distance parent next bucket : ℕ) (c c' : List (List ℕ)) : Type 0 where
  pub places : word_column place_field c' ≡ set (word_column place_field c) i place
  pub patterns : word_column pattern_field c' ≡ set (word_column pattern_field c) i pattern
  pub distances : column distance_field c' ≡ set (column distance_field c) i distance
  pub parents : column parent_field c' ≡ set (column parent_field c) i parent
  pub heads : column head_field c' ≡ column head_field c
  pub nexts : column next_field c' ≡ set (column next_field c) i next
  pub marks : column marks_field c' ≡ set (column marks_field c) i 0
  pub buckets : column bucket_field c' ≡ set (column bucket_field c) i bucket
