-- A graph whose edges cost 0 or 1. From `a` an edge of cost 0 leads to b; from b edges of cost 1 lead to c and d, and from both of these one of
-- cost 0 to e; from e edges of cost 1 lead back to e and on to f, and from f one of cost 0 to f itself. Its search is run by the laws of the search,
-- as a loop would run it: c is settled by storing e, and d by e, which is stored then, and f by itself. So six nodes are reached, and the edge e to
-- f has distance 2. A way of cost 2 to it repeats no node.
use mathlib.Core.Path.{◌≡◌, refl, sym, ap, ◌∙◌}
use mathlib.Core.Bool.{Bool}
use mathlib.Core.List.{List, [], ◌∷◌}
use Prim.Native.Nat.{ℕ, zero, suc, ◌+◌, ◌<◌, ◌≤◌}
use native.Mathlib.Omega.{arith}
use lib.Dec.{eqb}
use lib.ListN.{length, get_or}
use borrow.Author.Tests.{eq-eqb, eqb-true}
use Rattle.graph.specs.Lists.{Census}
use Rattle.graph.specs.Inner.Graph.{Graph, Reached, ExitDistance}
use Rattle.graph.specs.Inner.Table.{Different, Table, Held, Fresh, Pushed, Closed, Searching}
use Rattle.graph.proofs.LeastWay.{Way, QuietAlone, least-different, least-steps}
use Rattle.graph.proofs.Complete.{census-count}
use Rattle.graph.proofs.Wanted.{Tells, nearest_distance, first_nearest}
use Rattle.graph.proofs.Search.{Next, search_start, push, push_next, next-settled, next_expanded, settle, expand, finish}

data Place : Type 0 where
  a b c d e f : Place

data Lane : Type 0 where
  free left right : Lane

abbrev Leads : Place → Lane → Place → Type 0
Leads a free y = y ≡ b
Leads a left y = ⊥
Leads a right y = ⊥
Leads b free y = ⊥
Leads b left y = y ≡ c
Leads b right y = y ≡ d
Leads c free y = y ≡ e
Leads c left y = ⊥
Leads c right y = ⊥
Leads d free y = y ≡ e
Leads d left y = ⊥
Leads d right y = ⊥
Leads e free y = ⊥
Leads e left y = y ≡ e
Leads e right y = y ≡ f
Leads f free y = y ≡ f
Leads f left y = ⊥
Leads f right y = ⊥

abbrev toll : Lane → ℕ
toll free = 0
toll left = 1
toll right = 1

abbrev lanes : Graph Place Lane
lanes = record { start = a; Edge = Leads; cost = toll }

-- the first n entries
abbrev entries : ℕ → Table Place
entries n =
    record {
      count = n;
      node = λ i. get_or (a ∷ b ∷ c ∷ d ∷ e ∷ f ∷ []) i a;
      dist = λ i. get_or (0 ∷ 0 ∷ 1 ∷ 1 ∷ 1 ∷ 2 ∷ []) i 0;
      parent = λ i. get_or (0 ∷ 0 ∷ 1 ∷ 1 ∷ 2 ∷ 4 ∷ []) i 0;
    }

abbrev place : Place → ℕ
place a = 0
place b = 1
place c = 2
place d = 3
place e = 4
place f = 5

node-place : (i : ℕ) → i < 6 → place ((entries 6).node i) ≡ i
node-place zero l = refl
node-place (suc zero) l = refl
node-place (suc (suc zero)) l = refl
node-place (suc (suc (suc zero))) l = refl
node-place (suc (suc (suc (suc zero)))) l = refl
node-place (suc (suc (suc (suc (suc zero))))) l = refl
node-place (suc (suc (suc (suc (suc (suc i)))))) l = absurd (omega arith)

-- the search, and that entries at distance far come next
abbrev Turn : (n u k far : ℕ) → Type 0
Turn n u k far = Searching lanes (entries n) u k × Next (entries n) u k far

-- entry n is new, behind the edge l of entry p
found : (n u k far p : ℕ) (l : Lane) → Turn n u k far → n < 6 → p < n → Leads ((entries 6).node p) l ((entries 6).node n)
    → far ≡ (entries 6).dist p + toll l → (entries 6).dist n ≡ far → (entries 6).parent n ≡ p → Turn (n + 1) u k far
found n u k far p l (s, t) small old edge total dist parent = (push s t old pushed fresh l edge total, push_next s t old pushed fresh l edge total)
  where
    pushed : Pushed (entries n) (entries (n + 1)) ((entries 6).node n) far p
    pushed =
        record {
          old = record { more = omega arith; nodes = λ i m. refl; dists = λ i m. refl; parents = λ i m. refl };
          one = refl;
          node = refl;
          dist = dist;
          parent = parent;
        }

    fresh : Fresh (entries n) ((entries 6).node n)
    fresh j m q = omega (arith, ap place q, node-place j (omega arith), node-place n small)

held : (n j : ℕ) → j < n → {y : Place} → y ≡ (entries 6).node j → Held (entries n) y
held n j l p = record { at = j; below = l; is = sym p }

-- a is settled: b is stored, at the same distance; b has no edge that costs nothing
start-settled : Searching lanes (entries 2) 2 0
start-settled = settle a_settled (omega arith) (λ l y e z. none l y e z)
  where
    s1 : Searching lanes (entries 1) 0 0
    s1 = search_start lanes (entries 1) refl refl refl refl

    a_settled : Searching lanes (entries 2) 1 0
    a_settled = settle (found 1 0 0 0 0 free (s1, next-settled s1 (omega arith)) (omega arith) (omega arith) refl refl refl refl).0 (omega arith) leads
      where
        leads : (l : Lane) (y : Place) → Leads a l y → toll l ≡ 0 → Held (entries 2) y
        leads free y p z = held 2 1 (omega arith) p
        leads left y p z = elim p [ ]
        leads right y p z = elim p [ ]

    none : (l : Lane) (y : Place) → Leads b l y → toll l ≡ 0 → Held (entries 2) y
    none left y p z = absurd (omega arith)
    none right y p z = absurd (omega arith)
    none free y p z = elim p [ ]

-- a and b are expanded: c and d, one further
b_done : Searching lanes (entries 4) 2 2
b_done = expand d_new.0 (omega arith) leads
  where
    a_done : Searching lanes (entries 2) 2 1
    a_done = expand start-settled (omega arith) none
      where
        none : (l : Lane) (y : Place) → Leads a l y → 0 < toll l → Held (entries 2) y
        none free y p z = absurd (omega arith)
        none left y p z = elim p [ ]
        none right y p z = elim p [ ]

    c_new : Turn 3 2 1 1
    c_new = found 2 2 1 1 1 left (a_done, next_expanded a_done (omega arith) (omega arith)) (omega arith) (omega arith) refl refl refl refl

    d_new : Turn 4 2 1 1
    d_new = found 3 2 1 1 1 right c_new (omega arith) (omega arith) refl refl refl refl

    leads : (l : Lane) (y : Place) → Leads b l y → 0 < toll l → Held (entries 4) y
    leads left y p z = held 4 2 (omega arith) p
    leads right y p z = held 4 3 (omega arith) p
    leads free y p z = elim p [ ]

-- c is settled by e, and so is d, whose edge leads to e too; e has no edge that costs nothing
e_settled : Searching lanes (entries 5) 5 2
e_settled = settle d_settled (omega arith) none
  where
    c_settled : Searching lanes (entries 5) 3 2
    c_settled = settle (found 4 2 2 1 2 free (b_done, next-settled b_done (omega arith)) (omega arith) (omega arith) refl refl refl refl).0 (omega arith) leads
      where
        leads : (l : Lane) (y : Place) → Leads c l y → toll l ≡ 0 → Held (entries 5) y
        leads free y p z = held 5 4 (omega arith) p
        leads left y p z = elim p [ ]
        leads right y p z = elim p [ ]

    d_settled : Searching lanes (entries 5) 4 2
    d_settled = settle c_settled (omega arith) leads
      where
        leads : (l : Lane) (y : Place) → Leads d l y → toll l ≡ 0 → Held (entries 5) y
        leads free y p z = held 5 4 (omega arith) p
        leads left y p z = elim p [ ]
        leads right y p z = elim p [ ]

    none : (l : Lane) (y : Place) → Leads e l y → toll l ≡ 0 → Held (entries 5) y
    none left y p z = absurd (omega arith)
    none right y p z = absurd (omega arith)
    none free y p z = elim p [ ]

-- c and d lead to nothing further; e leads to itself and to f, which is settled by itself
end : Searching lanes (entries 6) 6 6
end = expand f_settled (omega arith) f_none
  where
    d_done : Searching lanes (entries 5) 5 4
    d_done = expand (expand e_settled (omega arith) c_none) (omega arith) d_none
      where
        c_none : (l : Lane) (y : Place) → Leads c l y → 0 < toll l → Held (entries 5) y
        c_none free y p z = absurd (omega arith)
        c_none left y p z = elim p [ ]
        c_none right y p z = elim p [ ]

        d_none : (l : Lane) (y : Place) → Leads d l y → 0 < toll l → Held (entries 5) y
        d_none free y p z = absurd (omega arith)
        d_none left y p z = elim p [ ]
        d_none right y p z = elim p [ ]

    e_done : Searching lanes (entries 6) 5 5
    e_done =
        expand (found 5 5 4 2 4 right (d_done, next_expanded d_done (omega arith) (omega arith)) (omega arith) (omega arith) refl refl refl refl).0
        (omega arith) leads
      where
        leads : (l : Lane) (y : Place) → Leads e l y → 0 < toll l → Held (entries 6) y
        leads left y p z = held 6 4 (omega arith) p
        leads right y p z = held 6 5 (omega arith) p
        leads free y p z = elim p [ ]

    f_settled : Searching lanes (entries 6) 6 5
    f_settled = settle e_done (omega arith) leads
      where
        leads : (l : Lane) (y : Place) → Leads f l y → toll l ≡ 0 → Held (entries 6) y
        leads free y p z = held 6 5 (omega arith) p
        leads left y p z = elim p [ ]
        leads right y p z = elim p [ ]

    f_none : (l : Lane) (y : Place) → Leads f l y → 0 < toll l → Held (entries 6) y
    f_none free y p z = absurd (omega arith)
    f_none left y p z = elim p [ ]
    f_none right y p z = elim p [ ]

closed : Closed lanes (entries 6) 6
closed = finish end (omega arith)

six_reached : (list : List Place) → Census (Reached lanes) list → length list ≡ 6
six_reached list census = census-count end.sound closed list census

-- the right edge of e is wanted
abbrev Wanted : Place → Lane → Type 0
Wanted x l = (x ≡ e) × (l ≡ right)

-- only entry 4 is e
is_e : ℕ → Bool
is_e i = eqb i 4

e_told : Tells lanes Wanted (entries 6) is_e 1
unfolding is_e
e_told =
    record {
      leaves = λ i l h. let at : i ≡ 4 = omega (arith, eqb-true) in rw at (record { label = right; target = f; edge = refl; wanted = (refl, refl) });
      all = λ i l h. eq-eqb i 4 (sym (node-place i l) ∙ ap place h.wanted.0);
      costs = λ x l h. ap toll h.1;
    }

e_distance : ExitDistance lanes Wanted 2
unfolding is_e
e_distance =
    nearest_distance end.sound closed e_told 4
    (first_nearest is_e (entries 6).dist 6 4 end.sorted (omega arith) (λ j l h. omega (arith, eqb-true)) refl)

-- ---- the way over b, c and e costs 2, so it repeats no node and has no more edges than nodes are reached
quiet_alone : QuietAlone lanes
quiet_alone a y z free free p n q = (refl, q ∙ sym p)
quiet_alone b y z left m p n q = absurd (omega arith)
quiet_alone b y z right m p n q = absurd (omega arith)
quiet_alone c y z free free p n q = (refl, q ∙ sym p)
quiet_alone d y z free free p n q = (refl, q ∙ sym p)
quiet_alone e y z left m p n q = absurd (omega arith)
quiet_alone e y z right m p n q = absurd (omega arith)
quiet_alone f y z free free p n q = (refl, q ∙ sym p)
quiet_alone a y z free left p n q = elim q [ ]
quiet_alone a y z free right p n q = elim q [ ]
quiet_alone a y z left m p n q = elim p [ ]
quiet_alone a y z right m p n q = elim p [ ]
quiet_alone b y z free m p n q = elim p [ ]
quiet_alone c y z free left p n q = elim q [ ]
quiet_alone c y z free right p n q = elim q [ ]
quiet_alone c y z left m p n q = elim p [ ]
quiet_alone c y z right m p n q = elim p [ ]
quiet_alone d y z free left p n q = elim q [ ]
quiet_alone d y z free right p n q = elim q [ ]
quiet_alone d y z left m p n q = elim p [ ]
quiet_alone d y z right m p n q = elim p [ ]
quiet_alone e y z free m p n q = elim p [ ]
quiet_alone f y z free left p n q = elim q [ ]
quiet_alone f y z free right p n q = elim q [ ]
quiet_alone f y z left m p n q = elim p [ ]
quiet_alone f y z right m p n q = elim p [ ]

abbrev passed : ℕ → Place
passed t = get_or (a ∷ b ∷ c ∷ e ∷ f ∷ []) t a

abbrev taken : ℕ → Lane
taken t = get_or (free ∷ left ∷ free ∷ right ∷ []) t free

way : Way lanes passed taken 4
way = record { starts = refl; edge = edge }
  where
    edge : (t : ℕ) → t < 4 → Leads (passed t) (taken t) (passed (suc t))
    edge zero l = refl
    edge (suc zero) l = refl
    edge (suc (suc zero)) l = refl
    edge (suc (suc (suc zero))) l = refl
    edge (suc (suc (suc (suc t)))) l = absurd (omega arith)

passed_different : Different passed 4
passed_different = least-different quiet_alone way (refl, refl) (omega arith) e_distance.least

four-within : (list : List Place) → Census (Reached lanes) list → 4 ≤ length list
four-within list census = least-steps quiet_alone way (refl, refl) (omega arith) e_distance.least list census.all
