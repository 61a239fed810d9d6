-- A finished table of words is a census of the configurations: its words are the reached ones, once each, and words are told by their
-- configurations. If more words are reached than there are cells, so are more configurations.
use mathlib.Core.Path.{◌≡◌, ◌∙◌, subst}
use mathlib.Core.List.{map}
use Prim.Native.Nat.{ℕ}
use native.Mathlib.Omega.{arith}
use lib.IntN.{ℤ}
use lib.ListN.{length, length-map}
use Rattle.graph.specs.Lists.{In, MoreThan, Census}
use Rattle.graph.specs.Inner.Graph.{Reached}
use Rattle.graph.proofs.Counting.{listed, length_listed, once-map, map_in}
use Rattle.graph.proofs.Complete.{table-census}
use Rattle.model.specs.Language.{Flow}
use Rattle.model.specs.Configuration.{Reachable}
use Rattle.configuration.specs.Inner.Place.{configuration_of}
use Rattle.configuration.specs.Inner.Graph.{word_graph}
use Rattle.configuration.specs.declared.Words.{Words}
use Rattle.configuration.proofs.Reaches.{census_of_words, words_reachable, path-proper, words_tell}
use Rattle.configuration.specs.Inner.Fits.{FlowFits, ProperWords}
use Rattle.cells.specs.Inner.Entries.{Entries}
use Rattle.search_table.specs.Inner.Table.{words_at, table_of, Complete}

module _ {lo hi : ℤ} {w : ℕ} {flow : Flow} (f : FlowFits lo hi w flow) where
  -- ---- more words than cells are more configurations than cells
  pub outnumbered : (cells : ℕ) → MoreThan (Reached (word_graph lo w flow)) cells → MoreThan (Reachable lo hi flow) cells
  outnumbered cells m =
      record {
        list = map (configuration_of lo w flow) m.list;
        once = once-map (configuration_of lo w flow) m.list m.once (λ x y h k. words_tell f x y (proper x h) (proper y k));
        only = λ c h.
            let (x, k, e) = map_in (configuration_of lo w flow) c m.list h in
            subst (Reachable lo hi flow) e (words_reachable f x (m.only x k));
        more = omega (arith, m.more, length-map m.list (configuration_of lo w flow));
      }
    where
      proper : (x : Words) → In x m.list → ProperWords lo w flow x
      proper x h = path-proper f (m.only x h).1

  -- ---- a finished table
  module _ {e : Entries} {n : ℕ} (t : Complete lo w flow e n) where
    pub complete-census : Census (Reachable lo hi flow) (map (configuration_of lo w flow) (listed (words_at e) n))
    unfolding table_of
    complete-census = census_of_words f (listed (words_at e) n) (table-census t.sound t.closed)

    pub length-complete : length (map (configuration_of lo w flow) (listed (words_at e) n)) ≡ n
    length-complete = length-map (listed (words_at e) n) (configuration_of lo w flow) ∙ length_listed (words_at e) n
