-- What a search promises: it stores all configurations that a flow reaches, or says that they outnumber the cells.
use Rattle.std.specs.Prelude.{◌≡◌, List, ℕ, ◌+◌, ◌≤◌, ℤ, Option, Some, None}
use Rattle.std.proofs.Math.Option as Math
use Rattle.graph.specs.Lists.{MoreThan}
use Rattle.graph.specs.Inner.Graph.{Reached}
use Rattle.graph.specs.Inner.Table.{Searching}
use Rattle.model.specs.Language.{Flow}
use Rattle.model.specs.Machine.{Exit}
use Rattle.model.specs.Distance.{weight}
use Rattle.flow.specs.Legal.{Legal}
use Rattle.configuration.specs.declared.Words.{Words}
use Rattle.configuration.specs.declared.Op.{Op}
use Rattle.configuration.specs.Inner.Graph.{WordEdge, word_graph}
use Rattle.configuration.specs.Inner.Fits.{FlowFits}
use Rattle.cells.specs.Inner.Columns.{Rows}
use Rattle.cells.specs.Inner.Entries.{entries_of, Filled, distance_of}
use Rattle.search_table.specs.Inner.Passes.{Prepared}
use Rattle.search_table.specs.Inner.Table.{words_at, table_of, Complete}
use Rattle.search_visit.specs.Inner.Fan.{SearchReady, GrownIs}

-- what is searched: a legal flow of which ops are the prepared instructions
pub record Subject (w : ℕ) (ops : List Op) : Type 0 where
  pub lo : ℤ
  pub hi : ℤ
  pub flow : Flow
  pub legal : Legal flow
  pub fit : FlowFits lo hi w flow
  pub prepared : Prepared lo flow ops

-- ---- what an entry leads to
-- an edge of x that costs so much leads to y
abbrev pub LeadsAt : (w : ℕ) → Op → (cost : ℕ) (x y : Words) → Type 0
LeadsAt w op cost x y = (e : Math.Option Exit) × WordEdge w op x e y × (weight e ≡ cost)

-- entry i is expanded along its edges that cost so much: all that they lead to is stored
abbrev pub ExpandedIs : (w : ℕ) → Op → (r r' : Rows) (count cells i cost : ℕ) → Option ℕ → Type 0
ExpandedIs w op r r' count cells i cost g =
    let x = words_at (entries_of r) i in
    GrownIs (LeadsAt w op cost x) (LeadsAt w op cost x) w r r' count cells (distance_of (entries_of r) i + cost) i g

-- ---- the search
-- the search of a flow with c entries settled and k of them expanded
pub record Exploring (lo : ℤ) (w : ℕ) (flow : Flow) (r : Rows) (count cells c k : ℕ) : Type 0 where
  pub ready : SearchReady w r count cells
  pub searching : Searching (word_graph lo w flow) (table_of (entries_of r) count) c k

-- the first n of the cells hold all configurations that are reached
pub record Finished (lo : ℤ) (w : ℕ) (flow : Flow) (r : Rows) (cells n : ℕ) : Type 0 where
  pub complete : Complete lo w flow (entries_of r) n
  pub filled : Filled (entries_of r) r.heads r.nexts n cells
  pub within : n ≤ cells

-- the answer of a search that has so many cells and leaves the rows r
unfoldable pub SearchedIs : (lo : ℤ) (w : ℕ) → Flow → (r : Rows) (cells : ℕ) → Option ℕ → Type 0
SearchedIs lo w flow r cells (Some n) = Finished lo w flow r cells n
SearchedIs lo w flow r cells None = MoreThan (Reached (word_graph lo w flow)) cells
