-- The way to an entry of a finished table, as it is traced into a row: it begins with the words of the start, ends with those of the entry,
-- and from the words at each place an edge leads to the words at the next, whose distance is greater by what the edge costs. So a run follows
-- it step by step.
use mathlib.Core.Path.{◌≡◌, ap, ◌∙◌}
use mathlib.Core.List.{List}
use mathlib.Core.Option.{Option}
use Prim.Native.Nat.{ℕ, ◌+◌, ◌<◌, ◌≤◌}
use native.Mathlib.Omega.{arith}
use lib.IntN.{ℤ}
use lib.ListN.{length, get_or}
use Rattle.graph.proofs.Chain.{Chain, chain_leads}
use Rattle.model.specs.Language.{Flow}
use Rattle.model.specs.Machine.{Exit}
use Rattle.model.specs.Distance.{weight}
use Rattle.configuration.specs.Inner.Step.{start_of}
use Rattle.configuration.specs.Inner.Graph.{WordEdge, op_at, word_graph}
use Rattle.cells.specs.Cells.{most_cells}
use Rattle.cells.specs.Inner.Entries.{Entries, distance_of}
use Rattle.cells.specs.Inner.Way.{Parents, Traced}
use Rattle.search_table.specs.Inner.Table.{words_at, table_of, Complete}
use Rattle.search_table.specs.Inner.Passes.{Walkable}
use Rattle.search_table.specs.Inner.Way.{words_on, Passable}

module _ {lo : ℤ} {w : ℕ} {flow : Flow} {e : Entries} {n : ℕ} (t : Complete lo w flow e n) where
  -- a way of parents can be traced
  pub complete-parents : n ≤ most_cells → n ≤ length e.parents → Parents e.parents n
  unfolding word_graph table_of
  complete-parents few room = record { few = few; room = room; before = λ i l m. (t.sound.child i l m).before }

  module _ {path : List ℕ} {at last : ℕ} (way : Traced e.parents path n at last) where
    traced_chain : Chain (table_of e n) (λ s. get_or path s 0) at last 0
    unfolding table_of
    traced_chain =
        record {
          ends = way.ends;
          within = omega arith;
          stored = λ s a b. way.entry s b;
          later = λ s a b. way.later s a b;
          link = λ s a b. way.link s b;
        }

    pub way_starts : words_on e path 0 ≡ start_of lo
    unfolding word_graph table_of
    way_starts = ap (words_at e) way.starts ∙ t.sound.origin

    pub way_near : distance_of e (get_or path 0 0) ≡ 0
    unfolding word_graph table_of
    way_near = ap (distance_of e) way.starts ∙ t.sound.origin_dist

    pub way_ends : words_on e path last ≡ words_at e at
    way_ends = ap (words_at e) way.ends

    pub way_edge : (s : ℕ) → s < last
        → (x : Option Exit) × WordEdge w (op_at lo flow (words_on e path s)) (words_on e path s) x (words_on e path (s + 1))
        × (distance_of e (get_or path (s + 1) 0) ≡ distance_of e (get_or path s 0) + weight x)
    unfolding word_graph table_of
    way_edge s l = let k = chain_leads t.sound traced_chain s (omega arith) l in (k.label, k.edge, k.further)

-- a pass can walk a way
pub traced_passable : {places patterns distances parents path : List ℕ} {n at last : ℕ} → Walkable places patterns distances n
    → Traced parents path n at last → last ≤ most_cells → last < length path → Passable places path last
traced_passable walk way few room =
    record {
      few = few;
      room = room;
      entry = λ t l. omega (arith, way.entry t l, walk.place_room);
      stands = λ t l. walk.stands _ (way.entry t l);
    }
