-- The least distance of wanted edges, read off a table. A loop over the entries keeps either that none of the entries passed takes a wanted
-- edge, or which of those that do is the nearest (the first such, where several are equally near). At the table's end that is the distance to
-- the wanted edges, or that it is none. Where distances never fall along the index, the first entry that takes a wanted edge is the nearest.
use mathlib.Core.Path.{◌≡◌, sym, subst}
use mathlib.Core.Bool.{Bool, true, false}
use Prim.Native.Nat.{ℕ, ◌+◌, ◌<◌, ◌≤◌}
use native.Mathlib.Decide.{dec_lt}
use native.Mathlib.Omega.{arith}
use borrow.Author.Count.{below_more}
use Rattle.graph.specs.Inner.Graph.{Graph, ExitPath, ExitDistance, NoExit}
use Rattle.graph.proofs.Complete.{entry-path, path_stored}
use Rattle.graph.specs.Inner.Table.{Table, Sound, Closed, Sorted, NoneBefore}

-- a wanted edge leaves x
pub record Leaves {A L : Type 0} (G : Graph A L) (Wanted : A → L → Type 0) (x : A) : Type 0 where
  pub label : L
  pub target : A
  pub edge : G.Edge x label target
  pub wanted : Wanted x label

-- `takes i` says whether a wanted edge leaves entry i, and each wanted edge costs c
pub record Tells {A L : Type 0} (G : Graph A L) (Wanted : A → L → Type 0) (t : Table A) (takes : ℕ → Bool) (c : ℕ) : Type 0 where
  pub leaves : (i : ℕ) → i < t.count → takes i ≡ true → Leaves G Wanted (t.node i)
  pub all : (i : ℕ) → i < t.count → Leaves G Wanted (t.node i) → takes i ≡ true
  pub costs : (x : A) (l : L) → Wanted x l → G.cost l ≡ c

-- of the entries before k that take, i has the least distance, and is the first that has it
pub record Nearest (takes : ℕ → Bool) (dist : ℕ → ℕ) (k i : ℕ) : Type 0 where
  pub below : i < k
  pub takes_it : takes i ≡ true
  pub least : (j : ℕ) → j < k → takes j ≡ true → dist i ≤ dist j
  pub first : (j : ℕ) → j < i → takes j ≡ true → dist i < dist j

-- ---- the loop's steps
module _ (takes : ℕ → Bool) where
  pub none-at-start : NoneBefore takes 0
  none-at-start j l e = omega arith

  pub none_more : (k : ℕ) → NoneBefore takes k → takes k ≡ false → NoneBefore takes (k + 1)
  none_more k none e = below_more (λ j. takes j ≡ true → ⊥) k none (λ p. let z : ◌≡◌ {A = ℕ} 0 1 = cc in omega arith)

  module _ (dist : ℕ → ℕ) where
    -- along distances that never fall the first entry that takes is the nearest
    pub first_nearest : (n i : ℕ) → Sorted dist n → i < n → NoneBefore takes i → takes i ≡ true → Nearest takes dist n i
    first_nearest n i sorted l none e =
        record { below = l; takes_it = e; least = λ j m p. go j m p (dec_lt j i); first = λ j m p. absurd (none j m p) }
      where
        go : (j : ℕ) → j < n → takes j ≡ true → Dec (j < i) → dist i ≤ dist j
        go j m p (yes q) = absurd (none j q p)
        go j m p (no q) = sorted i j (omega arith) m

-- ---- the end
module _ {A L : Type 0} {G : Graph A L} {t : Table A} (sound : Sound G t) (closed : Closed G t t.count)
    {Wanted : A → L → Type 0} {takes : ℕ → Bool} {c : ℕ} (tells : Tells G Wanted t takes c) where
  -- a path that ends with a wanted edge passes an entry that takes, at no more than its cost
  exit-entry : (n : ℕ) → ExitPath G Wanted n → (j : ℕ) × (j < t.count) × (takes j ≡ true) × (t.dist j + c ≤ n)
  exit-entry n x =
      let s = path_stored sound closed x.path in
      let leaves = subst (Leaves G Wanted) (sym s.is) (record { label = x.label; target = x.target; edge = x.edge; wanted = x.wanted }) in
      (s.at, s.below, tells.all s.at s.below leaves, omega (arith, s.near, x.total, tells.costs x.from x.label x.wanted))

  pub nearest_distance : (i : ℕ) → Nearest takes t.dist t.count i → ExitDistance G Wanted (t.dist i + c)
  nearest_distance i h =
      let w = tells.leaves i h.below h.takes_it in
      record {
        exit =
            record {
              from = t.node i;
              label = w.label;
              target = w.target;
              before = t.dist i;
              path = entry-path sound i h.below;
              edge = w.edge;
              wanted = w.wanted;
              total = omega (arith, tells.costs (t.node i) w.label w.wanted);
            };
        least = λ n x. let (j, l, p, q) = exit-entry n x in omega (arith, h.least j l p);
      }

  pub none_no_exit : NoneBefore takes t.count → NoExit G Wanted
  none_no_exit none n x = let (j, l, p, q) = exit-entry n x in none j l p
