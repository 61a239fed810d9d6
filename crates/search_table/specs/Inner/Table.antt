-- The table of configurations in the work cells.
use Rattle.std.specs.Prelude.{ℕ, ℤ, get_or}
use Rattle.graph.specs.Inner.Table.{Table, Sound, Closed, Sorted}
use Rattle.model.specs.Language.{Flow}
use Rattle.configuration.specs.Inner.Place.{words}
use Rattle.configuration.specs.Inner.Graph.{word_graph}
use Rattle.configuration.specs.declared.Words.{Words}
use Rattle.cells.specs.Inner.Entries.{Entries, distance_of, parent_of}

-- the words of entry i
abbrev pub words_at : Entries → ℕ → Words
words_at e i = words (get_or e.places i 0) (get_or e.patterns i 0)

-- the first n entries of the rows
unfoldable pub table_of : Entries → ℕ → Table Words
table_of e n = record { count = n; node = λ i. words_at e i; dist = λ i. distance_of e i; parent = λ i. parent_of e i }

-- a finished table: it holds all that is reached, once, at its least distance, in the order of the distances
pub record Complete (lo : ℤ) (w : ℕ) (flow : Flow) (e : Entries) (n : ℕ) : Type 0 where
  pub sound : Sound (word_graph lo w flow) (table_of e n)
  pub closed : Closed (word_graph lo w flow) (table_of e n) n
  pub sorted : Sorted (table_of e n).dist n
