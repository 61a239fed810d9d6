-- A way of least cost to a wanted edge repeats no node, where an edge that costs nothing is the only one of its node and the last edge costs
-- something. Say that it is at one node at steps i and j, i before j. If something is paid between them, the rest of the way can be taken from i
-- on, at less cost. If nothing is paid, the way goes round from j on as it went from i on, so that it never pays again, and its last edge costs
-- nothing. So such a way has at most as many edges as nodes are reached.
use mathlib.Core.Path.{◌≡◌, refl, sym, subst}
use mathlib.Core.List.{List}
use Prim.Native.Nat.{ℕ, zero, suc, ◌+◌, ◌-◌, ◌<◌, ◌≤◌}
use native.Mathlib.Decide.{ℕ_discrete}
use native.Mathlib.Numerals.{unary_clauses}
use native.Mathlib.Omega.{arith}
use lib.ListN.{length}
use Rattle.graph.specs.Lists.{In}
use Rattle.graph.specs.Inner.Graph.{Graph, Path, here, onward, Reached, ExitPath}
use Rattle.graph.specs.Inner.Table.{Different}
use Rattle.graph.proofs.Counting.{once_le, listed, length_listed, in_listed, listed_once}

-- what the first t labels cost
abbrev pub spent : {A L : Type 0} → Graph A L → (ℕ → L) → ℕ → ℕ
spent G label zero = 0
spent G label (suc t) = spent G label t + G.cost (label t)

-- a way of n edges from the start: its nodes and labels by step
pub record Way {A L : Type 0} (G : Graph A L) (node : ℕ → A) (label : ℕ → L) (n : ℕ) : Type 0 where
  pub starts : node 0 ≡ G.start
  pub edge : (t : ℕ) → t < n → G.Edge (node t) (label t) (node (suc t))

-- an edge that costs nothing is the only one of its node
abbrev pub QuietAlone : {A L : Type 0} → Graph A L → Type 0
QuietAlone {A} {L} G = (x y z : A) (l m : L) → G.Edge x l y → G.cost l ≡ 0 → G.Edge x m z → (G.cost m ≡ 0) × (z ≡ y)

spent_grows : {A L : Type 0} (G : Graph A L) (label : ℕ → L) (i s : ℕ) → spent G label i ≤ spent G label (i + s)
spent_grows G label i zero = simp unary_clauses (omega arith)
spent_grows G label i (suc s) = simp unary_clauses (omega (arith, spent_grows G label i s))

pub way_path : {A L : Type 0} {G : Graph A L} {node : ℕ → A} {label : ℕ → L} {n : ℕ} → Way G node label n → (t : ℕ) → t ≤ n
    → Path G (spent G label t) (node t)
way_path {G = G} way zero l = subst (Path G 0) (sym way.starts) here
way_path way (suc t) l = onward (way_path way t (omega arith)) (way.edge t (omega arith)) refl

-- ---- a way that is at one node at steps i and j
module _ {A L : Type 0} {G : Graph A L} {node : ℕ → A} {label : ℕ → L} {n : ℕ} (way : Way G node label n)
    (i j : ℕ) (before : i < j) (same : node i ≡ node j) where
  -- the rest of the way taken from i on
  short : (s : ℕ) → j + s ≤ n → (k : ℕ) × (k + spent G label j ≡ spent G label i + spent G label (j + s)) × Path G k (node (j + s))
  short zero l = simp unary_clauses (spent G label i, refl, subst (Path G (spent G label i)) same (way_path way i (omega arith)))
  short (suc s) l =
      let (k, e, p) = short s (omega arith) in
      simp unary_clauses (k + G.cost (label (j + s)), omega arith, onward p (way.edge (j + s) (omega arith)) refl)

  module _ (quiet : QuietAlone G) (nothing : spent G label j ≤ spent G label i) where
    -- nothing is paid from i to j,
    between : (u : ℕ) → i ≤ u → u < j → G.cost (label u) ≡ 0
    between u a b =
        let p : i + (u - i) ≡ u = omega arith in
        let q : suc u + (j - suc u) ≡ j = omega arith in
        omega (
          arith,
          subst (λ (v : ℕ). spent G label i ≤ spent G label v) p (spent_grows G label i (u - i)),
          subst (λ (v : ℕ). spent G label (suc u) ≤ spent G label v) q (spent_grows G label (suc u) (j - suc u)),
        )

    -- nor from there on: the way goes round
    round : (s : ℕ) → j + s ≤ n → ((u : ℕ) → i ≤ u → u < j + s → G.cost (label u) ≡ 0) × (node (i + s) ≡ node (j + s))
    round zero l = simp unary_clauses (between, same)
    round (suc s) l = simp unary_clauses (go (round s (omega arith)))
      where
        go : ((u : ℕ) → i ≤ u → u < j + s → G.cost (label u) ≡ 0) × (node (i + s) ≡ node (j + s))
            → ((u : ℕ) → i ≤ u → u < suc (j + s) → G.cost (label u) ≡ 0) × (node (suc (i + s)) ≡ node (suc (j + s)))
        go (free, at) =
            let (more, next) =
            quiet (node (i + s)) (node (suc (i + s))) (node (suc (j + s))) (label (i + s)) (label (j + s))
            (way.edge (i + s) (omega arith)) (free (i + s) (omega arith) (omega arith))
            (subst (λ (x : A). G.Edge x (label (j + s)) (node (suc (j + s)))) (sym at) (way.edge (j + s) (omega arith)))
            in
            (λ u a b. last u a b more (ℕ_discrete u (j + s)), sym next)
          where
            last : (u : ℕ) → i ≤ u → u < suc (j + s) → G.cost (label (j + s)) ≡ 0 → Dec (u ≡ j + s) → G.cost (label u) ≡ 0
            last u a b more (yes p) = subst (λ (v : ℕ). G.cost (label v) ≡ 0) (sym p) more
            last u a b more (no p) = free u a (omega arith)

-- ---- a way of least cost to a wanted edge
module _ {A L : Type 0} {G : Graph A L} {Wanted : A → L → Type 0} {node : ℕ → A} {label : ℕ → L} {last : ℕ}
    (quiet : QuietAlone G) (way : Way G node label (suc last)) (wanted : Wanted (node last) (label last)) (paid : 0 < G.cost (label last))
    (least : (k : ℕ) → ExitPath G Wanted k → spent G label (suc last) ≤ k) where
  -- it repeats no node
  pub least-different : Different node (suc last)
  least-different i j before within same =
      omega (arith, (round way i j before same quiet nothing (suc (last - j)) (omega arith)).0 last (omega arith) (omega arith))
    where
      nothing : spent G label j ≤ spent G label i
      nothing =
          let (k, e, p) = short way i j before same (last - j) (omega arith) in
          let at : j + (last - j) ≡ last = omega arith in
          let e' = subst (λ (v : ℕ). k + spent G label j ≡ spent G label i + spent G label v) at e in
          omega (
            arith,
            e',
            least (k + G.cost (label last)) (record {
              from = node last;
              label = label last;
              target = node (suc last);
              before = k;
              path = subst (λ (v : ℕ). Path G k (node v)) at p;
              edge = way.edge last (omega arith);
              wanted = wanted;
              total = refl;
            }),
          )

  -- so it has at most as many edges as nodes are reached
  pub least-steps : (all : List A) → ((x : A) → Reached G x → In x all) → suc last ≤ length all
  least-steps all holds =
      omega (
        arith,
        length_listed node (suc last),
        once_le (listed node (suc last)) all (listed_once node (suc last) least-different) reached,
      )
    where
      reached : (x : A) → In x (listed node (suc last)) → In x all
      reached x h =
          let (i, l, e) = in_listed node (suc last) x h in
          holds x (spent G label i, subst (Path G (spent G label i)) e (way_path way i (omega arith)))
