-- The chain of parents from an entry back to the start, written into a row from its end: place `last` holds the entry, the place before it
-- its parent, and so on down to place d. Places count edges: a chain down to place 0 that has the first entry there begins with the
-- start. Read forwards an edge leads from each place's node to that of the next.
use mathlib.Core.Path.{◌≡◌, sym, ap, ◌∙◌, subst}
use mathlib.Core.List.{List}
use mathlib.Core.Logic.{◌⊎◌, inl, inr}
use Prim.Native.Nat.{ℕ, ◌+◌, ◌<◌, ◌≤◌}
use native.Mathlib.Decide.{ℕ_discrete}
use native.Mathlib.Omega.{arith}
use lib.ListN.{length, get_or, set}
use lib.Seq.{get_or-set_same, get_or-set_other}
use Rattle.graph.specs.Inner.Graph.{Graph}
use Rattle.graph.specs.Inner.Table.{Table, Sound}

-- from place d to place `last`, path holds entries, each the parent of the next, up to entry i
pub record Chain {A : Type 0} (t : Table A) (path : ℕ → ℕ) (i last d : ℕ) : Type 0 where
  pub ends : path last ≡ i
  pub within : d ≤ last
  pub stored : (e : ℕ) → d ≤ e → e ≤ last → path e < t.count
  pub later : (e : ℕ) → d < e → e ≤ last → 0 < path e
  pub link : (e : ℕ) → d ≤ e → e < last → t.parent (path (e + 1)) ≡ path e

-- an edge leads from entry i to entry j and makes up the difference of their distances
pub record ChainLeads {A L : Type 0} (G : Graph A L) (t : Table A) (i j : ℕ) : Type 0 where
  pub label : L
  pub edge : G.Edge (t.node i) label (t.node j)
  pub further : t.dist j ≡ t.dist i + G.cost label

pub chain_start : {A : Type 0} (t : Table A) (path : ℕ → ℕ) (i last : ℕ) → path last ≡ i → i < t.count → Chain t path i last last
chain_start t path i last e l =
    record {
      ends = e;
      within = omega arith;
      stored = λ f a b. let same : f ≡ last = omega arith in omega (arith, ap path same);
      later = λ f a b. absurd (omega arith);
      link = λ f a b. absurd (omega arith);
    }

module _ {A L : Type 0} {G : Graph A L} {t : Table A} (sound : Sound G t) {path : ℕ → ℕ} {i last d : ℕ} (c : Chain t path i last d) where
  -- one place more, before the others: the parent of the entry at d
  pub chain_more : (path' : ℕ → ℕ) (b : ℕ) → b + 1 ≡ d → 0 < path d → ((e : ℕ) → d ≤ e → path' e ≡ path e) → path' b ≡ t.parent (path d)
      → Chain t path' i last b
  chain_more path' b one more old new =
      record {
        ends = old last c.within ∙ c.ends;
        within = omega (arith, c.within);
        stored = λ e l m. stored e m (cut e l);
        later = λ e l m. later e m (ℕ_discrete e d) (omega arith);
        link = λ e l m. link e m (cut e l);
      }
    where
      cut : (e : ℕ) → b ≤ e → (e ≡ b) ⊎ (d ≤ e)
      cut e l = go (ℕ_discrete e b)
        where
          go : Dec (e ≡ b) → (e ≡ b) ⊎ (d ≤ e)
          go (yes p) = inl p
          go (no p) = inr (omega arith)

      here : path d < t.count
      here = c.stored d (omega arith) c.within

      stored : (e : ℕ) → e ≤ last → (e ≡ b) ⊎ (d ≤ e) → path' e < t.count
      stored e m (inl p) = omega (arith, ap path' p, here, (sound.child (path d) more here).before)
      stored e m (inr p) = omega (arith, old e p, c.stored e p m)

      later : (e : ℕ) → e ≤ last → Dec (e ≡ d) → d ≤ e → 0 < path' e
      later e m (yes p) l = omega (arith, old e l, ap path p)
      later e m (no p) l = omega (arith, old e l, c.later e (omega arith) m)

      link : (e : ℕ) → e < last → (e ≡ b) ⊎ (d ≤ e) → t.parent (path' (e + 1)) ≡ path' e
      link e m (inl p) =
          let up : e + 1 ≡ d = omega arith in
          ap t.parent (ap path' up ∙ old d (omega arith)) ∙ sym new ∙ sym (ap path' p)
      link e m (inr p) = ap t.parent (old (e + 1) (omega arith)) ∙ c.link e p m ∙ sym (old e p)

  -- an edge leads from each place's node to that of the next
  pub chain_leads : (e : ℕ) → d ≤ e → e < last → ChainLeads G t (path e) (path (e + 1))
  chain_leads e l m =
      let k = sound.child (path (e + 1)) (c.later (e + 1) (omega arith) (omega arith)) (c.stored (e + 1) (omega arith) (omega arith)) in
      let p = c.link e l m in
      record {
        label = k.label;
        edge = subst (λ (j : ℕ). G.Edge (t.node j) k.label (t.node (path (e + 1)))) p k.edge;
        further = omega (arith, k.further, ap t.dist p);
      }

-- one place more, where the chain is a list that is written at place b
pub chain_set : {A L : Type 0} {G : Graph A L} {t : Table A} → Sound G t → (row : List ℕ) {i last d : ℕ} → Chain t (λ e. get_or row e 0) i last d
    → last < length row → (b j : ℕ) → b + 1 ≡ d → 0 < get_or row d 0 → j ≡ t.parent (get_or row d 0)
    → Chain t (λ e. get_or (set row b j) e 0) i last b
chain_set sound row c room b j one more is =
    chain_more sound c (λ e. get_or (set row b j) e 0) b one more
    (λ e l. get_or-set_other row b e j 0 (omega arith))
    (get_or-set_same row b j 0 (omega (arith, c.within)) ∙ is)
