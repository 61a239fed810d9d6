-- Where no edge costs more than 1, a least path of cost n passes a node at each distance up to n. So more than n nodes are reached, and no
-- distance of an exit exceeds the number of nodes.
use mathlib.Core.Path.{◌≡◌, refl, sym, subst}
use mathlib.Core.List.{List, [], ◌∷◌}
use mathlib.Core.Logic.{inl, inr}
use Prim.Native.Nat.{ℕ, suc, ◌+◌, ◌<◌, ◌≤◌}
use native.Mathlib.Decide.{dec_lt}
use native.Mathlib.Omega.{arith}
use lib.ListN.{length}
use Rattle.graph.specs.Lists.{In, Once, MoreThan}
use Rattle.graph.specs.Inner.Graph.{Graph, Path, here, onward, Reached, ExitDistance}
use Rattle.graph.proofs.Counting.{once_le}

-- x is reached at a cost below n
abbrev Below : {A L : Type 0} → Graph A L → ℕ → A → Type 0
Below G n x = (k : ℕ) × (k < n) × Path G k x

-- no path to x costs less than n
abbrev Least : {A L : Type 0} → Graph A L → ℕ → A → Type 0
Least G n x = (k : ℕ) → Path G k x → n ≤ k

module _ {A L : Type 0} {G : Graph A L} where
  -- a node at distance n beside n nodes below
  one_more : (n : ℕ) (x : A) → Path G n x → Least G n x → (l : List A) → Once l → ((y : A) → In y l → Below G n y) → n ≤ length l
      → MoreThan (Below G (suc n)) n
  one_more n x p least l once below many =
      record { list = x ∷ l; once = (λ h. let (k, a, q) = below x h in omega (arith, least k q), once); only = each; more = omega arith }
    where
      each : (y : A) → In y (x ∷ l) → Below G (suc n) y
      each y (inl e) = (n, omega arith, subst (Path G n) (sym e) p)
      each y (inr h) = let (k, a, q) = below y h in (k, omega arith, q)

  module _ (cheap : (l : L) → G.cost l ≤ 1) where
    -- where a least path costs n, more than n nodes are reached at a cost up to n
    passed : {n : ℕ} {x : A} → Path G n x → Least G n x → MoreThan (Below G (suc n)) n
    passed here least = one_more 0 G.start here least [] tt (λ y h. absurd h) (omega arith)
    passed (onward {n = n} {k = m} {x = x} {y = y} {l = l} p e q) least =
        go (dec_lt n m) (passed p (λ k r. omega (arith, least (k + G.cost l) (onward r e refl), q)))
      where
        go : Dec (n < m) → MoreThan (Below G (suc n)) n → MoreThan (Below G (suc m)) m
        go (yes h) t =
            let next : suc n ≡ m = omega (arith, cheap l, q) in
            one_more m y (onward p e q) least t.list t.once (λ z i. subst (λ (k : ℕ). Below G k z) next (t.only z i)) (omega (arith, t.more))
        go (no h) t = let same : n ≡ m = omega (arith, q) in subst (λ (k : ℕ). MoreThan (Below G (suc k)) k) same t

    -- no distance of an exit exceeds the number of nodes
    pub exit-within : (all : List A) → ((x : A) → Reached G x → In x all) → (Wanted : A → L → Type 0) (d : ℕ) → ExitDistance G Wanted d
        → d ≤ length all
    exit-within all holds Wanted d x =
        let e = x.exit in
        let shorter : (k : ℕ) → Path G k e.from → d ≤ k + G.cost e.label = λ k p. x.least (k + G.cost e.label) (record {
          from = e.from;
          label = e.label;
          target = e.target;
          before = k;
          path = p;
          edge = e.edge;
          wanted = e.wanted;
          total = refl;
        }) in
        let t = passed e.path (λ k p. omega (arith, shorter k p, e.total)) in
        omega (
          arith,
          cheap e.label,
          e.total,
          t.more,
          once_le t.list all t.once (λ y h. let (k, a, q) = t.only y h in holds y (k, q)),
        )
