-- Tables of a search that grow: what is stored stays stored, and what is expanded stays expanded.
use mathlib.Core.Path.{refl, ◌∙◌, subst}
use Prim.Native.Nat.{ℕ, ◌+◌, ◌<◌, ◌≤◌}
use native.Mathlib.Omega.{arith}
use Rattle.graph.specs.Inner.Graph.{Graph}
use Rattle.graph.specs.Inner.Table.{Table, Held, StoredNear, Expanded, Closed, Extends, Grows, none, more}

pub extends_same : {A : Type 0} (t : Table A) → Extends t t
extends_same t = record { more = omega arith; nodes = λ i l. refl; dists = λ i l. refl; parents = λ i l. refl }

pub extends_then : {A : Type 0} {t t' u : Table A} → Extends t t' → Extends t' u → Extends t u
extends_then g h =
    record {
      more = omega (arith, g.more, h.more);
      nodes = λ i l. h.nodes i (omega (arith, g.more)) ∙ g.nodes i l;
      dists = λ i l. h.dists i (omega (arith, g.more)) ∙ g.dists i l;
      parents = λ i l. h.parents i (omega (arith, g.more)) ∙ g.parents i l;
    }

-- what is stored stays stored
pub held_kept : {A : Type 0} {t t' : Table A} → Extends t t' → {y : A} → Held t y → Held t' y
held_kept g h = record { at = h.at; below = omega (arith, g.more, h.below); is = g.nodes h.at h.below ∙ h.is }

pub stored_kept : {A : Type 0} {t t' : Table A} → Extends t t' → {y : A} {d d' : ℕ} → d ≤ d' → StoredNear t y d → StoredNear t' y d'
stored_kept g l h =
    record {
      at = h.at;
      below = omega (arith, g.more, h.below);
      is = g.nodes h.at h.below ∙ h.is;
      near = omega (arith, g.dists h.at h.below, h.near);
    }

-- a loop that finds the edges of entry i stored in a table that grows has expanded it
pub expanded_since : {A L : Type 0} (G : Graph A L) {t t' : Table A} → Extends t t' → (i : ℕ) → i < t.count
    → ((l : L) (y : A) → G.Edge (t.node i) l y → StoredNear t' y (t.dist i + G.cost l)) → Expanded G t' i
expanded_since {A} G {t} g i h all l y e =
    stored_kept (extends_same _) (omega (arith, g.dists i h)) (all l y (subst (λ (x : A). G.Edge x l y) (g.nodes i h) e))

-- what is expanded stays expanded
pub closed-kept : {A L : Type 0} (G : Graph A L) {t t' : Table A} (k : ℕ) → Extends t t' → k ≤ t.count → Closed G t k → Closed G t' k
closed-kept G {t} {t'} k g b c i l =
    let h : i < t.count = omega arith in
    expanded_since G g i h (λ m y e. stored_kept g (omega arith) (c i l m y e))

-- ---- growth
module _ {A : Type 0} {S : A → Type 0} {d p : ℕ} where
  pub grows_extends : {t t' : Table A} → Grows S d p t t' → Extends t t'
  grows_extends {t} none = extends_same t
  grows_extends (more g s f q) = extends_then (grows_extends g) q.old

  pub grows_then : {t t' t'' : Table A} → Grows S d p t t' → Grows S d p t' t'' → Grows S d p t t''
  grows_then g none = g
  grows_then g (more h s f q) = more (grows_then g h) s f q

pub grows-wider : {A : Type 0} {S S' : A → Type 0} {d p : ℕ} → ((y : A) → S y → S' y) → {t t' : Table A} → Grows S d p t t' → Grows S' d p t t'
grows-wider wider none = none
grows-wider wider (more {y = y} g s f q) = more (grows-wider wider g) (wider y s) f q
