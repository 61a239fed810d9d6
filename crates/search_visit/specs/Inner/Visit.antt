-- How the table of configurations grows.
use Rattle.std.specs.Prelude.{◌≡◌, List, ℕ, ◌<◌, ◌≤◌, Option, Some, None}
use Rattle.configuration.specs.declared.Words.{Words}
use Rattle.cells.specs.Inner.Columns.{columns_of}
use Rattle.cells.specs.Inner.Entries.{Entries, entries_of, Filled}
use Rattle.search_table.specs.Inner.Table.{words_at, table_of}
use Rattle.search_visit.specs.declared.Visited.{Visited}
use Rattle.graph.specs.Inner.Table.{Table, Held, Fresh, Grows}

-- the cells are full, and some words that are S are not stored
pub record Outgrown (S : Words → Type 0) (d k : ℕ) (t : Table Words) (cells : ℕ) : Type 0 where
  pub table : Table Words
  pub grows : Grows S d k t table
  pub words : Words
  pub wanted : S words
  pub fresh : Fresh table words
  pub full : cells ≤ table.count

-- ---- a visit of y from entry k: y is entry i, and there are n entries
pub record Met (e e' : Entries) (heads nexts : List ℕ) (count cells d k : ℕ) (y : Words) (i n : ℕ) : Type 0 where
  pub filled : Filled e' heads nexts n cells
  pub grows : Grows (λ z. z ≡ y) d k (table_of e count) (table_of e' n)
  pub below : i < n
  pub is : words_at e' i ≡ y

unfoldable pub VisitedIs : (e e' : Entries) (heads nexts : List ℕ) (count cells d k : ℕ) → Words → Option Visited → Type 0
VisitedIs e e' heads nexts count cells d k y (Some v) = Met e e' heads nexts count cells d k y v.entry v.count
VisitedIs e e' heads nexts count cells d k y None = Outgrown (λ z. z ≡ y) d k (table_of e count) cells

abbrev pub VisitedIn : (c c' : List (List ℕ)) (count cells d k : ℕ) → Words → Option Visited → Type 0
VisitedIn c c' = VisitedIs (entries_of (columns_of c)) (entries_of (columns_of c')) (columns_of c').heads (columns_of c').nexts

-- ---- visits from entry k: what is added is S, and all words that are All are stored afterwards
pub record Kept (S All : Words → Type 0) (e e' : Entries) (heads nexts : List ℕ) (count cells d k n : ℕ) : Type 0 where
  pub filled : Filled e' heads nexts n cells
  pub grows : Grows S d k (table_of e count) (table_of e' n)
  pub all : (y : Words) → All y → Held (table_of e' n) y
