-- A visit: the words are found, or there is no cell left, or they are stored as the last entry.
use mathlib.Core.Path.{◌≡◌, refl, ap}
use mathlib.Core.List.{List}
use Prim.Native.Nat.{ℕ, ◌+◌, ◌<◌, ◌≤◌}
use native.Mathlib.Omega.{arith}
use Rattle.configuration.specs.Inner.Place.{words}
use Rattle.configuration.specs.declared.Words.{Words}
use Rattle.cells.specs.Inner.Index.{Node, node, node_at, Missing}
use Rattle.cells.specs.Inner.Entries.{Entries, Filled, Added}
use Rattle.cells.proofs.Entering.{node_stays, distance_stays, parent_stays, node_entered, distance_entered, parent_entered}
use Rattle.search_table.specs.Inner.Table.{words_at, table_of}
use Rattle.search_visit.specs.Inner.Visit.{Outgrown, Met}
use Rattle.graph.specs.Inner.Table.{Fresh, Pushed, none, more}

-- ---- a node of the cells and words are the same two words
pub node-words : {a b : Node} → a ≡ b → words a.place a.pattern ≡ words b.place b.pattern
node-words e = ap (λ (x : Node). words x.place x.pattern) e

words-node : {a b : Words} → a ≡ b → node a.place a.pattern ≡ node b.place b.pattern
words-node e = ap (λ (x : Words). node x.place x.pattern) e

-- ---- a visit
-- what was not found is not stored
fresh : (e : Entries) (count : ℕ) {y : Words} → Missing e.places e.patterns count (node y.place y.pattern) → Fresh (table_of e count) y
unfolding table_of
fresh e count missing j l s = missing j l (words-node s)

module _ {e : Entries} {heads nexts : List ℕ} {count cells d k : ℕ} {y : Words} (f : Filled e heads nexts count cells) where
  pub visit_found : {i : ℕ} → (i < count) × (node_at e.places e.patterns i ≡ node y.place y.pattern) → Met e e heads nexts count cells d k y i count
  visit_found (below, same) = record { filled = f; grows = none; below = below; is = node-words same }

  module _ (missing : Missing e.places e.patterns count (node y.place y.pattern)) where
    pub visit_full : cells ≤ count → Outgrown (λ z. z ≡ y) d k (table_of e count) cells
    unfolding table_of
    visit_full full =
        record {
          table = table_of e count;
          grows = none;
          words = y;
          wanted = refl;
          fresh = fresh e count missing;
          full = full;
        }

    pub visit_new : count < cells → {e' : Entries} {heads' nexts' : List ℕ} → Added e e' count (node y.place y.pattern) d k
        → Filled e' heads' nexts' (count + 1) cells → Met e e' heads' nexts' count cells d k y count (count + 1)
    unfolding table_of
    visit_new room {e'} a filled =
        record { filled = filled; grows = more none refl (fresh e count missing) pushed; below = omega arith; is = entered }
      where
        entered : words_at e' count ≡ y
        entered = node-words (node_entered a f room)

        pushed : Pushed (table_of e count) (table_of e' (count + 1)) y d k
        pushed =
            record {
              old =
                  record {
                    more = omega arith;
                    nodes = λ i l. node-words (node_stays a i l);
                    dists = λ i l. distance_stays a i l;
                    parents = λ i l. parent_stays a i l;
                  };
              one = refl;
              node = entered;
              dist = distance_entered a f room;
              parent = parent_entered a f room;
            }
