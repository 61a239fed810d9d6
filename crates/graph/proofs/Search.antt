-- The invariant of a search in the order of distance, and the steps by which a loop keeps it. Edges cost 0 or 1. Entries are settled in the order of
-- the index: what an edge of cost 0 leads to is stored at the same distance. If all are settled the next entry is expanded: what an edge of
-- cost 1 leads to is stored, one further. So distances never fall along the index, and those of the entries that are not settled are equal.
use mathlib.Core.Path.{◌≡◌, sym, ap, ◌∙◌, subst, subst₂}
use native.Mathlib.Decide.{ℕ_discrete}
use mathlib.Core.Logic.{◌⊎◌, inl, inr}
use Prim.Native.Nat.{ℕ, ◌+◌, ◌<◌, ◌≤◌}
use native.Mathlib.Omega.{arith}
use borrow.Author.Count.{below_more}
use Rattle.graph.specs.Inner.Graph.{Graph}
use Rattle.graph.proofs.Table.{extends_same, stored_kept, closed-kept, grows_extends}
use Rattle.graph.specs.Inner.Table.{Table, Held, StoredNear, Child, Expanded, Closed, Fresh, Extends, Pushed, Grows, none, more, Settled, Searching}

-- a child, by its parent
child_of : {A L : Type 0} (G : Graph A L) (t : Table A) (i j : ℕ) (l : L) → t.parent i ≡ j → j < i → G.Edge (t.node j) l (t.node i)
    → t.dist i ≡ t.dist j + G.cost l → Child G t i
child_of G t i j l e b edge further =
    record {
      before = omega arith;
      label = l;
      edge = subst (λ (m : ℕ). G.Edge (t.node m) l (t.node i)) (sym e) edge;
      further = omega (arith, ap t.dist e);
    }

-- one entry, the start at distance 0
pub search_start : {A L : Type 0} (G : Graph A L) (t : Table A) → t.count ≡ 1 → t.node 0 ≡ G.start → t.dist 0 ≡ 0 → t.parent 0 ≡ 0
    → Searching G t 0 0
search_start G t one node dist parent =
    record {
      sound =
          record {
            some = omega arith;
            origin = node;
            origin_dist = dist;
            origin_parent = parent;
            different = λ i j l m e. omega arith;
            child = λ i l m. absurd (omega arith);
          };
      bound = omega arith;
      within = omega arith;
      sorted = λ i j l m. omega (arith, at i (omega arith));
      last = λ l i m. omega (arith, at i (omega arith));
      level = λ l i m. omega (arith, at i (omega arith));
      settled = λ i l. absurd (omega arith);
      closed = λ i l. absurd (omega arith);
    }
  where
    at : (i : ℕ) → i < 1 → t.dist i ≡ 0
    at i l = let e : i ≡ 0 = omega arith in ap t.dist e ∙ dist

-- ---- one entry more, behind an edge of a stored entry p
-- no entry is further than d, nor is one that is not settled nearer, and d exceeds the distance of entry k by 1 at most
pub record Next {A : Type 0} (t : Table A) (c k d : ℕ) : Type 0 where
  pub stored : k < t.count
  pub furthest : (i : ℕ) → i < t.count → t.dist i ≤ d
  pub unsettled : c < t.count → d ≤ t.dist c
  pub near : d ≤ t.dist k + 1

module _ {A L : Type 0} {G : Graph A L} {t : Table A} {c k d p : ℕ} (s : Searching G t c k) (next : Next t c k d) (old-p : p < t.count) where
  module _ {t' : Table A} {y : A} (pushed : Pushed t t' y d p) (fresh : Fresh t y) (l : L) (edge : G.Edge (t.node p) l y)
      (total : d ≡ t.dist p + G.cost l) where
    old : Extends t t'
    old = pushed.old

    each : (P : ℕ → Type 0) → ((i : ℕ) → i < t.count → P i) → P t.count → (i : ℕ) → i < t'.count → P i
    each P before new i m = below_more P t.count before new i (omega (arith, pushed.one))

    different : (j : ℕ) → j < t'.count → (i : ℕ) → i < j → t'.node i ≡ t'.node j → ⊥
    different =
        each (λ j. (i : ℕ) → i < j → t'.node i ≡ t'.node j → ⊥)
        (λ j m i a q. s.sound.different i j a m (sym (old.nodes i (omega arith)) ∙ q ∙ old.nodes j m))
        (λ i a q. fresh i a (sym (old.nodes i a) ∙ q ∙ pushed.node))

    child : (i : ℕ) → i < t'.count → 0 < i → Child G t' i
    child = each (λ i. 0 < i → Child G t' i) before (λ a. new)
      where
        before : (i : ℕ) → i < t.count → 0 < i → Child G t' i
        before i m a =
            let c = s.sound.child i a m in
            let b : t.parent i < t.count = omega (arith, c.before) in
            child_of G t' i (t.parent i) c.label (old.parents i m) c.before
            (subst₂ (λ (x z : A). G.Edge x c.label z) (sym (old.nodes (t.parent i) b)) (sym (old.nodes i m)) c.edge)
            (omega (arith, old.dists i m, old.dists (t.parent i) b, c.further))

        new : Child G t' t.count
        new =
            child_of G t' t.count p l pushed.parent old-p
            (subst₂ (λ (x z : A). G.Edge x l z) (sym (old.nodes p old-p)) (sym pushed.node) edge)
            (omega (arith, pushed.dist, old.dists p old-p))

    furthest : (i : ℕ) → i < t'.count → t'.dist i ≤ d
    furthest = each (λ i. t'.dist i ≤ d) (λ i m. omega (arith, old.dists i m, next.furthest i m)) (omega (arith, pushed.dist))

    sorted : (j : ℕ) → j < t'.count → (i : ℕ) → i ≤ j → t'.dist i ≤ t'.dist j
    sorted =
        each (λ j. (i : ℕ) → i ≤ j → t'.dist i ≤ t'.dist j)
        (λ j m i a. omega (arith, old.dists i (omega arith), old.dists j m, s.sorted i j a m))
        (λ i a. omega (arith, furthest i (omega (arith, pushed.one)), pushed.dist))

    settled : (i : ℕ) → i < c → Settled G t' i
    settled i b m z e free =
        let h : i < t.count = omega (arith, s.within) in
        stored_kept old (omega (arith, old.dists i h)) (s.settled i b m z (subst (λ (x : A). G.Edge x m z) (old.nodes i h) e) free)

    unsettled : c < t'.count → d ≤ t'.dist c
    unsettled m = by (ℕ_discrete c t.count)
      where
        by : Dec (c ≡ t.count) → d ≤ t'.dist c
        by (yes e) = omega (arith, ap t'.dist e, pushed.dist)
        by (no e) =
            let h : c < t.count = omega (arith, s.within) in
            omega (arith, old.dists c h, next.unsettled h)

    pub push : Searching G t' c k
    push =
        record {
          sound =
              record {
                some = omega (arith, pushed.one);
                origin = old.nodes 0 s.sound.some ∙ s.sound.origin;
                origin_dist = old.dists 0 s.sound.some ∙ s.sound.origin_dist;
                origin_parent = old.parents 0 s.sound.some ∙ s.sound.origin_parent;
                different = λ i j a m. different j m i a;
                child = λ i a m. child i m a;
              };
          bound = s.bound;
          within = omega (arith, s.within, pushed.one);
          sorted = λ i j a m. sorted j m i a;
          last = λ m i h. omega (arith, furthest i h, unsettled m);
          level = λ m i h. omega (arith, furthest i h, next.near, old.dists k next.stored);
          settled = settled;
          closed = closed-kept G k old (omega (arith, s.bound, s.within)) s.closed;
        }

    pub push_next : Next t' c k d
    push_next =
        record {
          stored = omega (arith, next.stored, pushed.one);
          furthest = furthest;
          unsettled = unsettled;
          near = omega (arith, next.near, old.dists k next.stored);
        }

-- any number of them
module _ {A L : Type 0} {G : Graph A L} {t : Table A} {c k d p : ℕ} (s : Searching G t c k) (next : Next t c k d) (old-p : p < t.count) where
  pub push_all : {S : A → Type 0} → ((y : A) → S y → (l : L) × G.Edge (t.node p) l y × (d ≡ t.dist p + G.cost l)) → {t' : Table A}
      → Grows S d p t t' → Searching G t' c k × Next t' c k d
  push_all edges none = (s, next)
  push_all edges (more {t' = t'} {t'' = t''} {y = y} g a fresh pushed) = go (push_all edges g)
    where
      old : Extends t t'
      old = grows_extends g

      go : Searching G t' c k × Next t' c k d → Searching G t'' c k × Next t'' c k d
      go (s', next') =
          let (l, edge, total) = edges y a in
          let edge' = subst (λ (x : A). G.Edge x l y) (sym (old.nodes p old-p)) edge in
          let total' : d ≡ t'.dist p + G.cost l = omega (arith, old.dists p old-p) in
          let old-p' : p < t'.count = omega (arith, old.more) in
          (push s' next' old-p' pushed fresh l edge' total', push_next s' next' old-p' pushed fresh l edge' total')

-- ---- the two turns
module _ {A L : Type 0} {G : Graph A L} {t : Table A} {c k : ℕ} (s : Searching G t c k) where
  -- behind entry c at its own distance, and, if all are settled, behind entry k one further
  pub next-settled : (late : c < t.count) → Next t c k (t.dist c)
  next-settled late =
      let stored : k < t.count = omega (arith, s.bound) in
      record { stored = stored; furthest = s.last late; unsettled = λ h. omega arith; near = s.level stored c late }

  pub next_expanded : (stored : k < t.count) → t.count ≤ c → Next t c k (t.dist k + 1)
  next_expanded stored all = record { stored = stored; furthest = s.level stored; unsettled = λ h. absurd (omega arith); near = omega arith }

  -- what the edges of entry c that cost nothing lead to is stored: it is settled
  pub settle : c < t.count → ((l : L) (y : A) → G.Edge (t.node c) l y → G.cost l ≡ 0 → Held t y) → Searching G t (c + 1) k
  settle late held =
      record {
        sound = s.sound;
        bound = omega (arith, s.bound);
        within = omega arith;
        sorted = s.sorted;
        last = λ m i h. omega (arith, s.last late i h, s.sorted c (c + 1) (omega arith) m);
        level = s.level;
        settled = below_more (Settled G t) c s.settled
            (λ l y e free. let h = held l y e free in record { at = h.at; below = h.below; is = h.is; near = omega (arith, s.last late h.at h.below) });
        closed = s.closed;
      }

  -- what the edges of entry k that cost something lead to is stored: it is expanded, as it is settled
  pub expand : k < c → ((l : L) (y : A) → G.Edge (t.node k) l y → 0 < G.cost l → Held t y) → Searching G t c (k + 1)
  expand before held =
      record {
        sound = s.sound;
        bound = omega arith;
        within = s.within;
        sorted = s.sorted;
        last = s.last;
        level = λ m i h. omega (arith, s.level stored i h, s.sorted k (k + 1) (omega arith) m);
        settled = s.settled;
        closed = below_more (Expanded G t) k s.closed (λ l y e. by l y e (ℕ_discrete (G.cost l) 0));
      }
    where
      stored : k < t.count
      stored = omega (arith, s.within)

      by : (l : L) (y : A) → G.Edge (t.node k) l y → Dec (G.cost l ≡ 0) → StoredNear t y (t.dist k + G.cost l)
      by l y e (yes free) = stored_kept (extends_same t) (omega arith) (s.settled k before l y e free)
      by l y e (no costs) =
          let h = held l y e (omega arith) in
          record { at = h.at; below = h.below; is = h.is; near = omega (arith, s.level stored h.at h.below) }

-- ---- a turn of the loop: the first entry that is not settled, along its edges that cost nothing; with all settled entry k, along those that cost 1
abbrev pub Turn : (n c k at cost : ℕ) → Type 0
Turn n c k at cost = ((c < n) × (at ≡ c) × (cost ≡ 0)) ⊎ ((n ≤ c) × (at ≡ k) × (cost ≡ 1))

-- an edge of entry i that costs so much leads to y
abbrev pub LedTo : {A L : Type 0} → Graph A L → Table A → (i cost : ℕ) → A → Type 0
LedTo {A} {L} G t i cost y = (l : L) × G.Edge (t.node i) l y × (G.cost l ≡ cost)

module _ {A L : Type 0} {G : Graph A L} {t : Table A} {c k : ℕ} (s : Searching G t c k) (stored : k < t.count) {at cost : ℕ}
    (turn : Turn t.count c k at cost) where
  pub turn_stored : at < t.count
  turn_stored = by turn
    where
      by : Turn t.count c k at cost → at < t.count
      by (inl (l, e, z)) = omega arith
      by (inr (l, e, z)) = omega arith

  module _ {t' : Table A} (grows : Grows (LedTo G t at cost) (t.dist at + cost) at t t') where
    kept : Extends t t'
    kept = grows_extends grows

    pub turn_grown : Searching G t' c k
    turn_grown =
        (push_all s (by turn) turn_stored
        (λ y a. (a.0, a.1, let z : t.dist at + cost ≡ t.dist at + G.cost a.0 = omega (arith, a.2) in z)) grows).0
      where
        by : Turn t.count c k at cost → Next t c k (t.dist at + cost)
        by (inl (l, e, z)) =
            let d : t.dist c ≡ t.dist at + cost = omega (arith, ap t.dist e) in subst (Next t c k) d (next-settled s l)
        by (inr (l, e, z)) =
            let d : t.dist k + 1 ≡ t.dist at + cost = omega (arith, ap t.dist e) in subst (Next t c k) d (next_expanded s stored l)

    -- all that the edges lead to is stored
    pub turned : ((l : L) → G.cost l ≤ 1) → ((y : A) → LedTo G t at cost y → Held t' y) → {c' k' : ℕ} → c' + cost ≡ c + 1 → k' ≡ k + cost
        → Searching G t' c' k'
    turned cheap held {c'} {k'} settled expanded = by turn
      where
        edge : (l : L) (y : A) → G.Edge (t'.node at) l y → G.Edge (t.node at) l y
        edge l y = subst (λ (x : A). G.Edge x l y) (kept.nodes at turn_stored)

        by : Turn t.count c k at cost → Searching G t' c' k'
        by (inl (l, e, z)) =
            subst₂ (Searching G t') (omega arith) (omega arith)
            (settle turn_grown (omega (arith, kept.more)) (λ m y x free.
            held y (m, edge m y (subst (λ (i : ℕ). G.Edge (t'.node i) m y) (sym e) x), omega arith)))
        by (inr (l, e, z)) =
            subst₂ (Searching G t') (omega arith) (omega arith)
            (expand turn_grown (omega arith) (λ m y x costs.
            held y (m, edge m y (subst (λ (i : ℕ). G.Edge (t'.node i) m y) (sym e) x), omega (arith, cheap m))))

-- with every entry expanded, the table is closed
pub finish : {A L : Type 0} {G : Graph A L} {t : Table A} {c k : ℕ} → Searching G t c k → t.count ≤ k → Closed G t t.count
finish s end i l = s.closed i (omega arith)
