-- A graph of six nodes, of which the last is not reached. Its search is run by the laws of the search, as a loop would run it: five entries are
-- stored and expanded. So five nodes are reached, the edge d to e has distance 3, that of f none, and the chain of e leads from a over b and d.
use mathlib.Core.Path.{◌≡◌, refl, sym, ap, ◌∙◌}
use mathlib.Core.Bool.{Bool, true, false}
use mathlib.Core.List.{List, [], ◌∷◌}
use Prim.Native.Nat.{ℕ, zero, suc, ◌+◌, ◌<◌}
use native.Mathlib.Omega.{arith}
use lib.Dec.{eqb}
use lib.ListN.{length, get_or}
use borrow.Author.Tests.{eq-eqb, eqb-true}
use Rattle.graph.specs.Lists.{Census}
use Rattle.graph.specs.Inner.Graph.{Graph, Reached, ExitDistance, NoExit}
use Rattle.graph.proofs.Complete.{census-count}
use Rattle.graph.proofs.Wanted.{Tells, nearest_distance, first_nearest, none_no_exit}
use Rattle.graph.proofs.Search.{Next, search_start, push, push_next, next_expanded, settle, expand, finish}
use Rattle.graph.proofs.Chain.{Chain, ChainLeads, chain_start, chain_set, chain_leads}
use Rattle.graph.specs.Inner.Table.{Table, Held, Fresh, Pushed, Closed, Searching}

data Town : Type 0 where
  a b c d e f : Town

-- two edges leave each town, `true` and `false`
abbrev next : Town → Bool → Town
next a true = b
next a false = c
next b true = d
next b false = b
next c true = d
next c false = a
next d true = e
next d false = b
next e true = e
next e false = e
next f true = a
next f false = f

abbrev roads : Graph Town Bool
roads = record { start = a; Edge = λ x l y. next x l ≡ y; cost = λ l. 1 }

-- the first n entries
abbrev entries : ℕ → Table Town
entries n =
    record {
      count = n;
      node = λ i. get_or (a ∷ b ∷ c ∷ d ∷ e ∷ []) i a;
      dist = λ i. get_or (0 ∷ 1 ∷ 1 ∷ 2 ∷ 3 ∷ []) i 0;
      parent = λ i. get_or (0 ∷ 0 ∷ 0 ∷ 1 ∷ 3 ∷ []) i 0;
    }

abbrev place : Town → ℕ
place a = 0
place b = 1
place c = 2
place d = 3
place e = 4
place f = 5

node-place : (i : ℕ) → i < 5 → place ((entries 5).node i) ≡ i
node-place zero l = refl
node-place (suc zero) l = refl
node-place (suc (suc zero)) l = refl
node-place (suc (suc (suc zero))) l = refl
node-place (suc (suc (suc (suc zero)))) l = refl
node-place (suc (suc (suc (suc (suc i))))) l = absurd (omega arith)

-- the search, and that what entry k leads to comes next
abbrev Turn : (n u k : ℕ) → Type 0
Turn n u k = Searching roads (entries n) u k × Next (entries n) u k ((entries n).dist k + 1)

-- no edge costs nothing, so that an entry is settled as it stands; with all settled entry k has its turn
settled : (n u k : ℕ) → u < n → Searching roads (entries n) u k → Searching roads (entries n) (u + 1) k
settled n u k late s = settle s late (λ l y e free. absurd (omega arith))

turn : (n k : ℕ) → k < n → Searching roads (entries n) n k → Turn n n k
turn n k stored s = (s, next_expanded s stored (omega arith))

-- entry n is new, behind the edge l of entry k
found : (n u k : ℕ) (l : Bool) → Turn n u k → k < n → n < 5 → next ((entries 5).node k) l ≡ (entries 5).node n
    → (entries 5).dist n ≡ (entries 5).dist k + 1 → (entries 5).parent n ≡ k → Turn (n + 1) u k
found n u k l (s, t) stored small edge dist parent = (push s t stored pushed fresh l edge refl, push_next s t stored pushed fresh l edge refl)
  where
    pushed : Pushed (entries n) (entries (n + 1)) ((entries 5).node n) ((entries n).dist k + 1) k
    pushed =
        record {
          old = record { more = omega arith; nodes = λ i m. refl; dists = λ i m. refl; parents = λ i m. refl };
          one = refl;
          node = refl;
          dist = dist;
          parent = parent;
        }

    fresh : Fresh (entries n) ((entries 5).node n)
    fresh j m q = omega (arith, ap place q, node-place j (omega arith), node-place n small)

-- both edges of entry k lead to stored entries i and j
done : (n u k i j : ℕ) → Turn n u k → k < u → i < n → j < n → next ((entries 5).node k) true ≡ (entries 5).node i
    → next ((entries 5).node k) false ≡ (entries 5).node j → Searching roads (entries n) u (k + 1)
done n u k i j (s, t) before x y p q = expand s before (λ l z w costs. held l z w)
  where
    held : (l : Bool) (z : Town) → next ((entries n).node k) l ≡ z → Held (entries n) z
    held true z w = record { at = i; below = x; is = sym p ∙ w }
    held false z w = record { at = j; below = y; is = sym q ∙ w }

end : Searching roads (entries 5) 5 5
end =
    let s1 = settled 1 0 0 (omega arith) (search_start roads (entries 1) refl refl refl refl) in
    let b-new = found 1 1 0 true (turn 1 0 (omega arith) s1) (omega arith) (omega arith) refl refl refl in
    let c_new = found 2 1 0 false b-new (omega arith) (omega arith) refl refl refl in
    let a_done = done 3 1 0 1 2 c_new (omega arith) (omega arith) (omega arith) refl refl in
    let s3 = settled 3 2 1 (omega arith) (settled 3 1 1 (omega arith) a_done) in
    let d_new = found 3 3 1 true (turn 3 1 (omega arith) s3) (omega arith) (omega arith) refl refl refl in
    let b_done = done 4 3 1 3 1 d_new (omega arith) (omega arith) (omega arith) refl refl in
    let s4 = settled 4 3 2 (omega arith) b_done in
    let c-done = done 4 4 2 3 0 (turn 4 2 (omega arith) s4) (omega arith) (omega arith) (omega arith) refl refl in
    let e-new = found 4 4 3 true (turn 4 3 (omega arith) c-done) (omega arith) (omega arith) refl refl refl in
    let d_done = done 5 4 3 4 1 e-new (omega arith) (omega arith) (omega arith) refl refl in
    let s5 = settled 5 4 4 (omega arith) d_done in
    done 5 5 4 4 4 (turn 5 4 (omega arith) s5) (omega arith) (omega arith) (omega arith) refl refl

closed : Closed roads (entries 5) 5
closed = finish end (omega arith)

five_reached : (list : List Town) → Census (Reached roads) list → length list ≡ 5
five_reached list census = census-count end.sound closed list census

-- the edge `true` of a town is wanted
abbrev From : Town → Town → Bool → Type 0
From town x l = (x ≡ town) × (l ≡ true)

-- only entry 3 is d
is_d : ℕ → Bool
is_d i = eqb i 3

d_told : Tells roads (From d) (entries 5) is_d 1
unfolding is_d
d_told =
    record {
      leaves = λ i l h.
          let at : i ≡ 3 = omega (arith, eqb-true) in
          record { label = true; target = next ((entries 5).node i) true; edge = refl; wanted = (ap (entries 5).node at, refl) };
      all = λ i l h. eq-eqb i 3 (sym (node-place i l) ∙ ap place h.wanted.0);
      costs = λ x l h. refl;
    }

d_distance : ExitDistance roads (From d) 3
unfolding is_d
d_distance =
    nearest_distance end.sound closed d_told 3
    (first_nearest is_d (entries 5).dist 5 3 end.sorted (omega arith) (λ j l h. omega (arith, eqb-true)) refl)

-- no entry is f
f_none : NoExit roads (From f)
f_none =
    none_no_exit end.sound closed {takes = λ i. false} {c = 1}
    (record {
      leaves = λ i l h. absurd (let z : ◌≡◌ {A = ℕ} 0 1 = cc in omega arith);
      all = λ i l h. absurd (omega (arith, node-place i l, ap place h.wanted.0));
      costs = λ x l h. refl;
    })
    (λ j l h. let z : ◌≡◌ {A = ℕ} 0 1 = cc in omega arith)

-- the chain of entry 4, written from its end
chain : Chain (entries 5) (λ i. get_or (0 ∷ 1 ∷ 3 ∷ 4 ∷ []) i 0) 4 3 0
chain =
    let c3 = chain_start (entries 5) (λ i. get_or (0 ∷ 0 ∷ 0 ∷ 4 ∷ []) i 0) 4 3 refl (omega arith) in
    let c2 = chain_set end.sound (0 ∷ 0 ∷ 0 ∷ 4 ∷ []) c3 (omega arith) 2 3 refl (omega arith) refl in
    let c1 = chain_set end.sound (0 ∷ 0 ∷ 3 ∷ 4 ∷ []) c2 (omega arith) 1 1 refl (omega arith) refl in
    chain_set end.sound (0 ∷ 1 ∷ 3 ∷ 4 ∷ []) c1 (omega arith) 0 0 refl (omega arith) refl

b_leads_to_d : ChainLeads roads (entries 5) 1 3
b_leads_to_d = chain_leads end.sound chain 1 (omega arith) (omega arith)
