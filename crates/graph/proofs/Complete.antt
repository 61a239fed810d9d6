-- A sound table whose entries are all expanded is complete. Each entry is reached at its distance, along its parents. Whatever a path
-- reaches is stored, no further than the path's cost: by induction on the path, its last edge being closed. So the distances are least,
-- and the nodes of the table are a census of what is reached.
use mathlib.Core.Path.{◌≡◌, sym, ap, ◌∙◌, subst, subst₂}
use mathlib.Core.List.{List}
use Prim.Native.Nat.{ℕ, zero, suc, ◌<◌, ◌≤◌}
use native.Mathlib.Decide.{ℕ_discrete}
use native.Mathlib.Omega.{arith}
use lib.ListN.{length}
use Rattle.graph.specs.Lists.{In, Census}
use Rattle.graph.specs.Inner.Graph.{Graph, Path, here, onward, Reached}
use Rattle.graph.proofs.Counting.{different-same, listed, listed_in, in_listed, listed_once, length_listed, census_unique}
use Rattle.graph.specs.Inner.Table.{Table, StoredNear, Child, Sound, Closed}

module _ {A L : Type 0} {G : Graph A L} {t : Table A} (sound : Sound G t) where
  -- what holds of entry 0, and of each entry if of its parent, holds of all
  pub entry_induction : (P : ℕ → Type 0) → P 0 → ((i : ℕ) → i < t.count → Child G t i → P (t.parent i) → P i) → (i : ℕ) → i < t.count → P i
  entry_induction P first more i m = below (suc i) i (omega arith) m
    where
      below : (b i : ℕ) → i < b → i < t.count → P i
      below zero i l m = absurd (omega arith)
      below (suc b) i l m = go (ℕ_discrete i 0) (below b)
        where
          go : Dec (i ≡ 0) → ((j : ℕ) → j < b → j < t.count → P j) → P i
          go (yes e) before = subst P (sym e) first
          go (no n) before =
              let c = sound.child i (omega arith) m in
              more i m c (before (t.parent i) (omega (arith, c.before)) (omega (arith, c.before)))

  -- each entry is reached at its distance
  pub entry-path : (i : ℕ) → i < t.count → Path G (t.dist i) (t.node i)
  entry-path =
      entry_induction (λ i. Path G (t.dist i) (t.node i))
      (subst₂ (λ (d : ℕ) (x : A). Path G d x) (sym sound.origin_dist) (sym sound.origin) here)
      (λ i m c p. onward p c.edge c.further)

  -- where no edge costs more than 1, no distance exceeds the index
  pub dist-small : ((l : L) → G.cost l ≤ 1) → (i : ℕ) → i < t.count → t.dist i ≤ i
  dist-small cheap =
      entry_induction (λ i. t.dist i ≤ i) (omega (arith, sound.origin_dist))
      (λ i m c p. omega (arith, c.before, c.further, cheap c.label))

  module _ (closed : Closed G t t.count) where
    -- what a path reaches is stored, at no more than its cost
    pub path_stored : {n : ℕ} {x : A} → Path G n x → StoredNear t x n
    path_stored here = record { at = 0; below = sound.some; is = sound.origin; near = omega (arith, sound.origin_dist) }
    path_stored (onward {n = n} {k = k} {x = x} {y = y} {l = l} p e q) = go (path_stored p)
      where
        go : StoredNear t x n → StoredNear t y k
        go s =
            let r = closed s.at s.below l y (subst (λ (z : A). G.Edge z l y) (sym s.is) e) in
            record { at = r.at; below = r.below; is = r.is; near = omega (arith, r.near, s.near) }

    -- so the distance of an entry is the least
    pub entry-least : (i : ℕ) → i < t.count → (n : ℕ) → Path G n (t.node i) → t.dist i ≤ n
    entry-least i m n p =
        let s = path_stored p in
        omega (arith, s.near, ap t.dist (different-same t.node t.count sound.different s.at i s.below m s.is))

    -- and the nodes are exactly those that are reached, each once
    pub table-census : Census (Reached G) (listed t.node t.count)
    table-census =
        record {
          once = listed_once t.node t.count sound.different;
          all = λ x r.
              let s = path_stored r.1 in
              subst (λ (y : A). In y (listed t.node t.count)) s.is (listed_in t.node t.count s.at s.below);
          only = λ x h. let (i, m, e) = in_listed t.node t.count x h in (t.dist i, subst (Path G (t.dist i)) e (entry-path i m));
        }

    pub census-count : (l : List A) → Census (Reached G) l → length l ≡ t.count
    census-count l c = census_unique l (listed t.node t.count) c table-census ∙ length_listed t.node t.count
