-- Refusal by counting. When a node turns up that is not stored and no cell is left, the stored nodes and this one are reached and different,
-- so more nodes are reached than there are cells. A table that is closed is a census, so no more are reached than it has entries.
-- The two exclude each other: a search refuses exactly where what is reached outnumbers the cells.
use mathlib.Core.Path.{◌≡◌, refl, sym, ap, ◌∙◌, subst}
use mathlib.Core.Bool.{Bool, cond}
use mathlib.Core.List.{List}
use Prim.Native.Nat.{ℕ, ◌+◌, ◌<◌, ◌≤◌}
use native.Mathlib.Omega.{arith}
use lib.Dec.{ltb}
use lib.ListN.{length}
use borrow.Author.Count.{below_more}
use borrow.Author.Tests.{lt-ltb, le-ltb}
use Rattle.graph.specs.Lists.{Census, MoreThan}
use Rattle.graph.specs.Inner.Graph.{Graph, here, onward, Reached}
use Rattle.graph.proofs.Counting.{different-more_than, census_fits_not_more}
use Rattle.graph.proofs.Complete.{entry-path, census-count, table-census}
use Rattle.graph.specs.Inner.Table.{Table, Sound, Closed, Fresh}

-- without a cell the start alone outnumbers the cells
pub start_outnumber : {A L : Type 0} (G : Graph A L) → MoreThan (Reached G) 0
start_outnumber G = different-more_than (λ i. G.start) 0 (λ i j l m e. omega arith) (λ i l. (0, here))

module _ {A L : Type 0} {G : Graph A L} {t : Table A} (sound : Sound G t) where
  -- the cells are full, and an edge of entry k leads to a node that is not stored
  pub full_outnumber : (cells k : ℕ) (l : L) (y : A) → cells ≤ t.count → k < t.count → G.Edge (t.node k) l y → Fresh t y
      → MoreThan (Reached G) cells
  full_outnumber cells k l y full stored edge fresh =
      let m = different-more_than both t.count (λ i j a b. different j b i a) reached in
      record { list = m.list; once = m.once; only = m.only; more = omega (arith, m.more) }
    where
      -- the entries, and then y
      both : ℕ → A
      both i = cond (ltb i t.count) (t.node i) y

      entry : (i : ℕ) → i < t.count → both i ≡ t.node i
      entry i b = ap (λ (w : Bool). cond w (t.node i) y) (lt-ltb i t.count b)

      new : both t.count ≡ y
      new = ap (λ (w : Bool). cond w (t.node t.count) y) (le-ltb t.count t.count (omega arith))

      different : (j : ℕ) → j < t.count + 1 → (i : ℕ) → i < j → both i ≡ both j → ⊥
      different =
          below_more (λ j. (i : ℕ) → i < j → both i ≡ both j → ⊥) t.count
          (λ j b i a q. sound.different i j a b (sym (entry i (omega arith)) ∙ q ∙ entry j b))
          (λ i a q. fresh i a (sym (entry i a) ∙ q ∙ new))

      reached : (i : ℕ) → i < t.count + 1 → Reached G (both i)
      reached =
          below_more (λ i. Reached G (both i)) t.count
          (λ i b. subst (Reached G) (sym (entry i b)) (t.dist i, entry-path sound i b))
          (subst (Reached G) (sym new) (t.dist k + G.cost l, onward (entry-path sound k stored) edge refl))

  pub closed_fits : (cells : ℕ) → Closed G t t.count → t.count ≤ cells → (l : List A) → Census (Reached G) l → length l ≤ cells
  closed_fits cells closed fits l c = omega (arith, census-count sound closed l c)

  pub closed_not_outnumbered : (cells : ℕ) → Closed G t t.count → t.count ≤ cells → MoreThan (Reached G) cells → ⊥
  closed_not_outnumbered cells closed fits more =
      census_fits_not_more cells _ (table-census sound closed) (closed_fits cells closed fits _ (table-census sound closed)) more
