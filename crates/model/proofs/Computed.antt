-- Small flows by computation: `ball n` lists, each once, configurations that fewer than n exits reach. It lists all of them if each ball up to
-- it holds where its steps lead that take no exit, which is tested. Then an exit that the ball of n + 1 has and that of n has not is at
-- distance n + 1. A ball that grows no more is the census.
use mathlib.Core.Path.{◌≡◌, refl, sym, ap, ap₂, subst}
use mathlib.Core.Bool.{Bool-discrete, Bool, true, false, not, cond, ◌&&◌, ◌||◌}
use mathlib.Core.List.{List, [], ◌∷◌, ◌++◌, map, cons≢nil, head-eq_of_cons-eq, tail-eq_of_cons-eq}
use mathlib.Core.Logic.{◌⊎◌, inl, inr}
use mathlib.Core.Option.{Option, none, some}
use Prim.Native.Nat.{ℕ, zero, suc, ◌+◌, ◌-◌, ◌*◌, ◌<◌, ◌≤◌}
use native.Mathlib.Omega.{arith}
use lib.IntN.{ℤ, pos, suc_ℤ, ◌+ℤ◌, neg_ℤ}
use lib.Signed.{lt_z}
use lib.ListN.{length, get_or}
use lib.Dec.{T, ltb, leb, eqb, ltb→lt, nltb→le, leb→le, eqb→eq, eqb_refl, T_not}
use Rattle.model.specs.Language.{Instruction, stop, Flow, Field, tape, output, variable, target, constant, fields, C1, C2}
use Rattle.model.specs.Machine.{Exit, p_exit, step, exit_of}
use Rattle.model.specs.Pattern.{Mark, inside, above, below, equal}
use Rattle.graph.specs.Lists.{In, Once, Census}
use Rattle.graph.specs.Inner.Graph.{Path, here, onward, ExitPath}
use Rattle.graph.proofs.Counting.{in_map, map_in}
use Rattle.model.specs.Configuration.{Configuration, configuration, Reachable}
use Rattle.model.specs.Distance.{weight, Distance, NoDistance}
use Rattle.model.proofs.Integers.{zarith, suc_is, sub_pos, and_in, and_out, or_in, or_left, or_right, true_in, false_in}
use Rattle.model.proofs.Lists.{all_get_d, in_left, in_right, in_either}
use Rattle.model.proofs.Side.{near_in, near_out}
use Rattle.model.proofs.Ranks.{equal_in, equal_out}
use Rattle.model.proofs.Runs.{weight-small}
use Rattle.model.proofs.Graph.{trial, fed_with, Edge, still, fed, origin, configurations}
use Rattle.model.proofs.Exits.{takes_exit, exit-edge, edge-exit}
use Rattle.model.proofs.Theorems.{Taking, distance_of-exit, none_of_exit, reachable_reached, reached_reachable}
use Rattle.model.proofs.Constants.{legal_basic}
use Rattle.model.specs.Inner.Lists.{All}
use Rattle.model.specs.Inner.Integers.{up, dn}
use Rattle.model.specs.Inner.View.{View, reads, sets, tests, goes, stops, view_at, Numbered, LegalFlow}

-- ---- equality of configurations is decided by computation
abbrev pub decided : {P : Type 0} (b : Bool) → (T b → P) → (P → T b) → Dec P
decided true f g = yes (f tt)
decided false f g = no g

abbrev pub both_dec : {P Q : Type 0} → Dec P → Dec Q → Dec (P × Q)
both_dec (yes p) (yes q) = yes (p, q)
both_dec (yes p) (no q) = no (λ h. q h.1)
both_dec (no p) q = no (λ h. p h.0)

abbrev pub either_dec : {P Q : Type 0} → Dec P → Dec Q → Dec (P ⊎ Q)
either_dec (yes p) q = yes (inl p)
either_dec (no p) (yes q) = yes (inr q)
either_dec (no p) (no q) = no (λ h. elim h [ inl x ↦ p x | inr x ↦ q x ])

abbrev pub same_dec : {P Q : Type 0} → (P → Q) → (Q → P) → Dec P → Dec Q
same_dec f g (yes p) = yes (f p)
same_dec f g (no p) = no (λ q. p (g q))

pub eqb_out : (j k : ℕ) → j ≡ k → T (eqb j k)
eqb_out j k e = subst (λ (n : ℕ). T (eqb j n)) e (eqb_refl j)

abbrev pub list_dec : {A : Type 0} → ((x y : A) → Dec (x ≡ y)) → (l m : List A) → Dec (l ≡ m)
list_dec d [] [] = yes refl
list_dec d [] (y ∷ m) = no (λ e. cons≢nil (sym e))
list_dec d (x ∷ l) [] = no (λ e. cons≢nil e)
list_dec d (x ∷ l) (y ∷ m) =
    same_dec (λ h. ap₂ ◌∷◌ h.0 h.1) (λ e. (head-eq_of_cons-eq e, tail-eq_of_cons-eq e)) (both_dec (d x y) (list_dec d l m))

-- which of the three a mark is, and its value or rank
abbrev pub mark_kind : Mark → ℕ
mark_kind (inside c) = 0
mark_kind (above k) = 1
mark_kind (below k) = 2

abbrev pub amount : Mark → ℤ
amount (inside c) = c
amount (above k) = pos k
amount (below k) = pos k

pub marks-apart : (x y : Mark) → T (not (eqb (mark_kind x) (mark_kind y))) → x ≡ y → ⊥
marks-apart x y h e = T_not (eqb (mark_kind x) (mark_kind y)) h (eqb_out (mark_kind x) (mark_kind y) (ap mark_kind e))

abbrev pub mark_dec : (x y : Mark) → Dec (x ≡ y)
mark_dec (inside x) (inside y) = decided (equal x y) (λ h. ap inside (equal_in x y h)) (λ e. equal_out x y (ap amount e))
mark_dec (inside x) (above k) = no (marks-apart (inside x) (above k) tt)
mark_dec (inside x) (below k) = no (marks-apart (inside x) (below k) tt)
mark_dec (above j) (inside y) = no (marks-apart (above j) (inside y) tt)
mark_dec (above j) (above k) = decided (eqb j k) (λ h. ap above (eqb→eq j k h)) (λ e. eqb_out j k (ap (λ (m : Mark). up (amount m)) e))
mark_dec (above j) (below k) = no (marks-apart (above j) (below k) tt)
mark_dec (below j) (inside y) = no (marks-apart (below j) (inside y) tt)
mark_dec (below j) (above k) = no (marks-apart (below j) (above k) tt)
mark_dec (below j) (below k) = decided (eqb j k) (λ h. ap below (eqb→eq j k h)) (λ e. eqb_out j k (ap (λ (m : Mark). up (amount m)) e))

abbrev pub configuration_dec : (c d : Configuration) → Dec (c ≡ d)
configuration_dec c d = same_dec (λ h i. record { next = h.0 i; ended = h.1.0 i; marks = h.1.1 i })
    (λ e. (ap (λ (b : Configuration). b.next) e, (ap (λ (b : Configuration). b.ended) e, ap (λ (b : Configuration). b.marks) e)))
    (both_dec (decided (eqb c.next d.next) (eqb→eq c.next d.next) (eqb_out c.next d.next))
    (both_dec (list_dec Bool-discrete c.ended d.ended) (list_dec mark_dec c.marks d.marks)))

-- ---- lists that take each configuration once
abbrev pub in_dec : (c : Configuration) (l : List Configuration) → Dec (In c l)
in_dec c [] = no (λ h. h)
in_dec c (d ∷ l) = either_dec (configuration_dec c d) (in_dec c l)

abbrev pub insert : (c : Configuration) (l : List Configuration) → Dec (In c l) → List Configuration
insert c l (yes h) = l
insert c l (no h) = c ∷ l

abbrev pub add_all : List Configuration → List Configuration → List Configuration
add_all [] l = l
add_all (c ∷ cs) l = add_all cs (insert c l (in_dec c l))

insert_keeps : (c : Configuration) (l : List Configuration) (d : Dec (In c l)) (x : Configuration) → (x ≡ c) ⊎ In x l → In x (insert c l d)
insert_keeps c l (yes h) x (inl e) = subst (λ (y : Configuration). In y l) (sym e) h
insert_keeps c l (yes h) x (inr k) = k
insert_keeps c l (no h) x k = k

insert_in : (c : Configuration) (l : List Configuration) (d : Dec (In c l)) (x : Configuration) → In x (insert c l d) → (x ≡ c) ⊎ In x l
insert_in c l (yes h) x k = inr k
insert_in c l (no h) x k = k

insert_once : (c : Configuration) (l : List Configuration) (d : Dec (In c l)) → Once l → Once (insert c l d)
insert_once c l (yes h) k = k
insert_once c l (no h) k = (h, k)

add_keeps : (cs l : List Configuration) (x : Configuration) → In x cs ⊎ In x l → In x (add_all cs l)
add_keeps [] l x (inr h) = h
add_keeps (c ∷ cs) l x (inl (inl e)) = add_keeps cs (insert c l (in_dec c l)) x (inr (insert_keeps c l (in_dec c l) x (inl e)))
add_keeps (c ∷ cs) l x (inl (inr h)) = add_keeps cs (insert c l (in_dec c l)) x (inl h)
add_keeps (c ∷ cs) l x (inr h) = add_keeps cs (insert c l (in_dec c l)) x (inr (insert_keeps c l (in_dec c l) x (inr h)))
add_keeps [] l x (inl x4) = elim x4 [ ]

add_in : (cs l : List Configuration) (x : Configuration) → In x (add_all cs l) → In x cs ⊎ In x l
add_in [] l x h = inr h
add_in (c ∷ cs) l x h = go (add_in cs (insert c l (in_dec c l)) x h)
  where
    old : (x ≡ c) ⊎ In x l → In x (c ∷ cs) ⊎ In x l
    old (inl e) = inl (inl e)
    old (inr k) = inr k

    go : In x cs ⊎ In x (insert c l (in_dec c l)) → In x (c ∷ cs) ⊎ In x l
    go (inl k) = inl (inr k)
    go (inr k) = old (insert_in c l (in_dec c l) x k)

add_once : (cs l : List Configuration) → Once l → Once (add_all cs l)
add_once [] l k = k
add_once (c ∷ cs) l k = add_once cs (insert c l (in_dec c l)) (insert_once c l (in_dec c l) k)

-- if the list grew by nothing, all was there
add_longer : (cs l : List Configuration) → length l ≤ length (add_all cs l)
add_longer [] l = omega arith
add_longer (c ∷ cs) l = go (in_dec c l) (add_longer cs)
  where
    go : (d : Dec (In c l)) → ((m : List Configuration) → length m ≤ length (add_all cs m)) → length l ≤ length (add_all cs (insert c l d))
    go (yes h) f = f l
    go (no h) f = omega (arith, f (c ∷ l))

add_nothing : (cs l : List Configuration) → length (add_all cs l) ≡ length l → (x : Configuration) → In x cs → In x l
add_nothing (c ∷ cs) l e x h = go (in_dec c l) e h (add_nothing cs l)
  where
    go : (d : Dec (In c l)) → length (add_all cs (insert c l d)) ≡ length l → In x (c ∷ cs)
        → (length (add_all cs l) ≡ length l → (y : Configuration) → In y cs → In y l) → In x l
    go (yes k) q (inl p) f = subst (λ (y : Configuration). In y l) (sym p) k
    go (yes k) q (inr p) f = f q x p
    go (no k) q p f = absurd (omega (arith, add_longer cs (c ∷ l)))
add_nothing [] l e x h = elim h [ ]

-- some configuration of a list is P
abbrev Some : (Configuration → Type 0) → List Configuration → Type 0
Some P l = (c : Configuration) × In c l × P c

either_some : {X : Type 0} (P : Configuration → Type 0) (d : Configuration) (l : List Configuration) → P d ⊎ X → (X → Some P l) → Some P (d ∷ l)
either_some P d l (inl p) f = (d, inl refl, p)
either_some P d l (inr x) f = let (c, h, p) = f x in (c, inr h, p)

-- ---- where the edges of a configuration lead, as a list
abbrev pub span : ℤ → ℕ → List ℤ
span x zero = []
span x (suc n) = x ∷ span (suc_ℤ x) n

span_has : (n : ℕ) (x y : ℤ) → up x + dn y ≤ up y + dn x → up y + dn x < up x + dn y + n → In y (span x n)
span_has zero x y h k = absurd (omega arith)
span_has (suc n) x y h k = go (lt_z x y) refl (λ q. span_has n (suc_ℤ x) y (omega (zarith, suc_is x)) (omega (zarith, suc_is x)))
  where
    go : (b : Bool) → lt_z x y ≡ b → (lt_z x y ≡ true → In y (span (suc_ℤ x) n)) → (y ≡ x) ⊎ In y (span (suc_ℤ x) n)
    go true e f = inr (f e)
    go false e f = inl (omega zarith)

has_span : (n : ℕ) (x y : ℤ) → In y (span x n) → (up x + dn y ≤ up y + dn x) × (up y + dn x < up x + dn y + n)
has_span zero x y h = absurd h
has_span (suc n) x y (inl e) = (omega zarith, omega zarith)
has_span (suc n) x y (inr h) = let (p, q) = has_span n (suc_ℤ x) y h in (omega (arith, suc_is x), omega (arith, suc_is x))

-- how many numbers lie from lo to hi, widened by w on both sides
abbrev pub width : (lo hi : ℤ) → ℕ → ℕ
width lo hi w = suc ((up hi + dn lo) - (up lo + dn hi) + 2 * w)

-- c in front of a list, where no exit is taken
abbrev pub if_none : Option Exit → Configuration → List Configuration → List Configuration
if_none none c l = c ∷ l
if_none (some e) c l = l

module _ (lo hi : ℤ) (flow : Flow) where
  abbrev pub trials : ℕ → List ℤ
  trials w = span (lo +ℤ neg_ℤ (pos w)) (width lo hi w)

  abbrev pub fed_targets : View → Configuration → List Configuration
  fed_targets (reads a v p m) c = cond (get_or c.ended a false) [] (map (λ y. fed_with lo hi v p y c) (trials (suc (2 * length c.marks))))
  fed_targets (sets t v n) c = []
  fed_targets (tests x y p m) c = []
  fed_targets (goes n) c = []
  fed_targets stops c = []

  abbrev pub step_targets : Configuration → List Configuration
  step_targets c = configuration lo hi (step flow (trial lo hi flow c)) ∷ fed_targets (view_at flow c.next) c

  abbrev pub all_targets : List Configuration → List Configuration
  all_targets [] = []
  all_targets (c ∷ l) = step_targets c ++ all_targets l

  abbrev pub fringe : List Configuration → List Configuration
  fringe l = origin lo hi flow ∷ all_targets l

  abbrev pub grow : List Configuration → List Configuration
  grow l = add_all (fringe l) l

  -- where the steps of a list lead that take no exit
  abbrev pub quiet_targets : List Configuration → List Configuration
  quiet_targets [] = []
  quiet_targets (c ∷ l) = if_none (exit_of flow (trial lo hi flow c)) (configuration lo hi (step flow (trial lo hi flow c))) (quiet_targets l)

  -- followed so many times
  abbrev pub quieted : ℕ → List Configuration → List Configuration
  quieted zero l = l
  quieted (suc k) l = quieted k (add_all (quiet_targets l) l)

  abbrev pub ball : ℕ → List Configuration
  ball zero = []
  ball (suc n) = quieted (length flow.instructions) (grow (ball n))

  -- the balls up to that of n hold where their steps lead that take no exit
  abbrev pub settled : ℕ → Bool
  settled zero = true
  settled (suc n) = eqb (length (add_all (quiet_targets (ball (suc n))) (ball (suc n)))) (length (ball (suc n))) && settled n

  -- the ball of n grows no more
  abbrev pub whole : ℕ → Bool
  whole n = eqb (length (grow (ball n))) (length (ball n))

  -- the exit e of instruction i, at a configuration, and at one of a list
  abbrev pub exit_at : ℕ → Exit → Configuration → Bool
  exit_at i e c = eqb c.next i && takes_exit lo hi flow c e

  abbrev pub found : ℕ → Exit → List Configuration → Bool
  found i e [] = false
  found i e (c ∷ l) = exit_at i e c || found i e l

  -- ---- the lists are those of the graph
  edge-target : {o : Option Exit} {c c' : Configuration} → Edge lo hi flow c o c' → In c' (step_targets c)
  edge-target still = inl refl
  edge-target {c = c} (fed a v p m y i o near) =
      let (h, k) = near_in near in
      let w = suc (2 * length c.marks) in
      let here = span_has (width lo hi w) (lo +ℤ neg_ℤ (pos w)) y (omega (arith, sub_pos lo w)) (omega (arith, sub_pos lo w)) in
      inr (rw (i, o) (in_map (λ (u : ℤ). fed_with lo hi v p u c) y (trials w) here))

  among-targets : (k : List Configuration) (c x : Configuration) → In c k → In x (step_targets c) → In x (all_targets k)
  among-targets (d ∷ k) c x (inl e) h = in_left (step_targets d) (all_targets k) x (subst (λ (b : Configuration). In x (step_targets b)) e h)
  among-targets (d ∷ k) c x (inr p) h = in_right (step_targets d) (all_targets k) x (among-targets k c x p h)
  among-targets [] c x x4 h = elim x4 [ ]

  targets_of_lem : (k : List Configuration) (x : Configuration) → In x (all_targets k) → Some (λ c. In x (step_targets c)) k
  targets_of_lem (d ∷ k) x h = either_some (λ c. In x (step_targets c)) d k (in_either (step_targets d) (all_targets k) x h) (targets_of_lem k x)
  targets_of_lem [] x h = elim h [ ]

  in_found : (i : ℕ) (e : Exit) (k : List Configuration) (c : Configuration) → In c k → T (exit_at i e c) → T (found i e k)
  in_found i e (d ∷ k) c (inl p) h = or_left (exit_at i e d) (found i e k) (subst (λ (b : Configuration). T (exit_at i e b)) p h)
  in_found i e (d ∷ k) c (inr p) h = or_right (exit_at i e d) (found i e k) (in_found i e k c p h)
  in_found i e [] c x'' h = elim x'' [ ]

  found_in : (i : ℕ) (e : Exit) (k : List Configuration) → T (found i e k) → Some (λ c. T (exit_at i e c)) k
  found_in i e (d ∷ k) h = either_some (λ c. T (exit_at i e c)) d k (or_in (exit_at i e d) (found i e k) h) (found_in i e k)
  found_in i e [] h = elim h [ ]

  module _ (l : LegalFlow lo hi flow) where
    target-edge : (c c' : Configuration) → In c' (step_targets c) → (o : Option Exit) × Edge lo hi flow c o c'
    target-edge c c' (inl e) = (exit_of flow (trial lo hi flow c), subst (Edge lo hi flow c (exit_of flow (trial lo hi flow c))) (sym e) still)
    target-edge c c' (inr h) = go (view_at flow c.next) refl h
      where
        read : (a v p m : ℕ) → view_at flow c.next ≡ reads a v p m → (b : Bool) → get_or c.ended a false ≡ b
            → In c' (cond b [] (map (λ y. fed_with lo hi v p y c) (trials (suc (2 * length c.marks))))) → (o : Option Exit) × Edge lo hi flow c o c'
        read a v p m i true q k = absurd k
        read a v p m i false q k =
            let w = suc (2 * length c.marks) in
            let (y, t, e) = map_in (λ (u : ℤ). fed_with lo hi v p u c) c' (trials w) k in
            let (f, g) = has_span (width lo hi w) (lo +ℤ neg_ℤ (pos w)) y t in
            let z = l.zero in
            let near = near_out lo hi w y (omega (zarith, sub_pos lo w)) (omega (zarith, sub_pos lo w)) in
            (some p_exit, subst (Edge lo hi flow c (some p_exit)) e (fed a v p m y i q near))

        go : (w : View) → view_at flow c.next ≡ w → In c' (fed_targets w c) → (o : Option Exit) × Edge lo hi flow c o c'
        go (reads a v p m) i k = read a v p m i (get_or c.ended a false) refl k
        go (sets t v n) i k = absurd k
        go (tests x y p m) i k = absurd k
        go (goes n) i k = absurd k
        go stops i k = absurd k

    -- what fewer than n exits reach
    abbrev Near : ℕ → Configuration → Type 0
    Near n x = (m : ℕ) × (m < n) × Path (configurations lo hi flow) m x

    quiet_near : (n : ℕ) (k : List Configuration) → ((x : Configuration) → In x k → Near n x) → (x : Configuration) → In x (quiet_targets k) → Near n x
    quiet_near n (c ∷ k) near x h = go (exit_of flow (trial lo hi flow c)) refl h (quiet_near n k (λ y i. near y (inr i)) x)
      where
        next : Configuration
        next = configuration lo hi (step flow (trial lo hi flow c))

        go : (o : Option Exit) → exit_of flow (trial lo hi flow c) ≡ o → In x (if_none o next (quiet_targets k)) → (In x (quiet_targets k) → Near n x) → Near n x
        go none e (inl q) f =
            let (m, b, p) = near c (inl refl) in
            (m, b, onward {k = m} p (subst (Edge lo hi flow c (exit_of flow (trial lo hi flow c))) (sym q) still) (omega (arith, ap weight e)))
        go none e (inr i) f = f i
        go (some z) e i f = f i
    quiet_near n [] near x h = elim h [ ]

    quieted_near : (n j : ℕ) (k : List Configuration) → ((x : Configuration) → In x k → Near n x) → (x : Configuration) → In x (quieted j k) → Near n x
    quieted_near n zero k near x h = near x h
    quieted_near n (suc j) k near x h = quieted_near n j (add_all (quiet_targets k) k) (λ y i. either y (add_in (quiet_targets k) k y i)) x h
      where
        either : (y : Configuration) → In y (quiet_targets k) ⊎ In y k → Near n y
        either y (inl a) = quiet_near n k near y a
        either y (inr a) = near y a

    ball_near : (n : ℕ) (x : Configuration) → In x (ball n) → Near n x
    ball_near (suc n) x h =
        quieted_near (suc n) (length flow.instructions) (grow (ball n)) (λ y i. go y (add_in (fringe (ball n)) (ball n) y i) (ball_near n)) x h
      where
        go : (y : Configuration) → In y (fringe (ball n)) ⊎ In y (ball n) → ((z : Configuration) → In z (ball n) → Near n z) → Near (suc n) y
        go y (inl (inl e)) f = (0, omega arith, subst (Path (configurations lo hi flow) 0) (sym e) here)
        go y (inl (inr p)) f =
            let (c, q, t) = targets_of_lem (ball n) y p in
            let (m, b, r) = f c q in
            let (o, k) = target-edge c y t in
            (m + weight o, omega (arith, weight-small o), onward r k refl)
        go y (inr p) f = let (m, b, r) = f y p in (m, omega arith, r)
    ball_near zero x h = elim h [ ]

    -- a settled ball holds all of them
    quieted_keeps : (j : ℕ) (k : List Configuration) (x : Configuration) → In x k → In x (quieted j k)
    quieted_keeps zero k x h = h
    quieted_keeps (suc j) k x h = quieted_keeps j (add_all (quiet_targets k) k) x (add_keeps (quiet_targets k) k x (inr h))

    grow_ball : (n : ℕ) (x : Configuration) → In x (grow (ball n)) → In x (ball (suc n))
    grow_ball n = quieted_keeps (length flow.instructions) (grow (ball n))

    quiet_target : (k : List Configuration) {o : Option Exit} {c x : Configuration} → Edge lo hi flow c o x → weight o ≡ 0 → In c k → In x (quiet_targets k)
    quiet_target (d ∷ k) {o} {c} {x} edge free (inl e) = first edge free e
      where
        head : (p : Option Exit) (y : Configuration) → weight p ≡ 0 → In y (if_none p y (quiet_targets k))
        head none y z = inl refl
        head (some z) y h = absurd (omega arith)

        first : {o : Option Exit} {x : Configuration} → Edge lo hi flow c o x → weight o ≡ 0 → c ≡ d → In x (quiet_targets (d ∷ k))
        first still z q =
            subst (λ (b : Configuration). In (configuration lo hi (step flow (trial lo hi flow c)))
            (if_none (exit_of flow (trial lo hi flow b)) (configuration lo hi (step flow (trial lo hi flow b))) (quiet_targets k))) q
            (head (exit_of flow (trial lo hi flow c)) (configuration lo hi (step flow (trial lo hi flow c))) z)
        first (fed a v p m y i open_still near) z q = absurd (omega arith)
    quiet_target (d ∷ k) {o} {c} {x} edge free (inr h) =
        later (exit_of flow (trial lo hi flow d)) (configuration lo hi (step flow (trial lo hi flow d))) (quiet_target k edge free h)
      where
        later : (p : Option Exit) (y : Configuration) → In x (quiet_targets k) → In x (if_none p y (quiet_targets k))
        later none y i = inr i
        later (some z) y i = i
    quiet_target [] {o = o} {c = c} {x = x} edge free x5 = elim x5 [ ]

    near_ball : (n : ℕ) → T (settled n) → {m : ℕ} {x : Configuration} → Path (configurations lo hi flow) m x → m < n → In x (ball n)
    near_ball zero s r h = absurd (omega arith)
    near_ball (suc n) s here h = grow_ball n (origin lo hi flow) (add_keeps (fringe (ball n)) (ball n) (origin lo hi flow) (inl (inl refl)))
    near_ball (suc n) s (onward {n = j} {x = c} {y = x} {l = o} r edge q) h =
        go o refl (λ b. near_ball n rest.1 r b) (λ b. near_ball (suc n) s r b)
      where
        rest : T (eqb (length (add_all (quiet_targets (ball (suc n))) (ball (suc n)))) (length (ball (suc n)))) × T (settled n)
        rest = and_in (eqb (length (add_all (quiet_targets (ball (suc n))) (ball (suc n)))) (length (ball (suc n)))) (settled n) s

        go : (p : Option Exit) → o ≡ p → (j < n → In c (ball n)) → (j < suc n → In c (ball (suc n))) → In x (ball (suc n))
        go none e nearer same =
            add_nothing (quiet_targets (ball (suc n))) (ball (suc n))
            (eqb→eq (length (add_all (quiet_targets (ball (suc n))) (ball (suc n)))) (length (ball (suc n))) rest.0) x
            (quiet_target (ball (suc n)) edge (ap weight e) (same (omega arith)))
        go (some z) e nearer same =
            let one : weight o ≡ 1 = ap weight e in
            grow_ball n x (add_keeps (fringe (ball n)) (ball n) x
            (inl (inr (among-targets (ball n) c x (nearer (omega arith)) (edge-target edge)))))

    whole_ball : {m : ℕ} {x : Configuration} (n : ℕ) → T (whole n) → Path (configurations lo hi flow) m x → In x (ball n)
    whole_ball n e here = add_nothing (fringe (ball n)) (ball n) (eqb→eq (length (grow (ball n))) (length (ball n)) e) (origin lo hi flow) (inl refl)
    whole_ball n e (onward {x = c} {y = x} r y q) =
        add_nothing (fringe (ball n)) (ball n) (eqb→eq (length (grow (ball n))) (length (ball n)) e) x
        (inr (among-targets (ball n) c x (whole_ball n e r) (edge-target y)))

    quieted_once : (j : ℕ) (k : List Configuration) → Once k → Once (quieted j k)
    quieted_once zero k h = h
    quieted_once (suc j) k h = quieted_once j (add_all (quiet_targets k) k) (add_once (quiet_targets k) k h)

    ball_once : (n : ℕ) → Once (ball n)
    ball_once zero = tt
    ball_once (suc n) = quieted_once (length flow.instructions) (grow (ball n)) (add_once (fringe (ball n)) (ball n) (ball_once n))

    -- ---- the census, distances and none
    pub computed_census : (n : ℕ) → T (whole n) → Census (Reachable lo hi flow) (ball n)
    computed_census n e = record {
      once = ball_once n;
      all = λ c r. whole_ball n e (reachable_reached l c r).1;
      only = λ c h. let (m, b, r) = ball_near n c h in reached_reachable l c (m, r);
    }

    found_exit : (i : ℕ) (e : Exit) (n : ℕ) → T (found i e (ball n)) → (d : ℕ) × (d ≤ n) × ExitPath (configurations lo hi flow) (Taking i e) d
    found_exit i e n h =
        let (c, k, t) = found_in i e (ball n) h in
        let (p, q) = and_in (eqb c.next i) (takes_exit lo hi flow c e) t in
        let (m, b, r) = ball_near n c k in
        let (x, y) = exit-edge l c e q in (
          m + 1,
          omega arith,
          record { from = c; label = some e; target = x; before = m; path = r; edge = y; wanted = (eqb→eq c.next i p, refl); total = refl },
        )

    exit_found : (i : ℕ) (e : Exit) (k : List Configuration) (d : ℕ) (p : ExitPath (configurations lo hi flow) (Taking i e) d) → In p.from k
        → T (found i e k)
    exit_found i e k d p h =
        let edge = subst (λ (o : Option Exit). Edge lo hi flow p.from o p.target) p.wanted.1 p.edge in
        in_found i e k p.from h
        (and_out (eqb p.from.next i) (takes_exit lo hi flow p.from e) (eqb_out p.from.next i p.wanted.0) (edge-exit l p.from edge))

    pub computed_distance : (i : ℕ) (e : Exit) (n : ℕ) → T (settled n) → T (found i e (ball (suc n))) → T (not (found i e (ball n)))
        → Distance flow i e (suc n)
    computed_distance i e n s h never =
        let (d, b, p) = found_exit i e (suc n) h in
        let exact : d ≡ suc n = omega (arith, far d p) in
        distance_of-exit l i e (suc n) (record { exit = subst (ExitPath (configurations lo hi flow) (Taking i e)) exact p; least = λ k q. omega (arith, far k q) })
      where
        go : (k : ℕ) → ExitPath (configurations lo hi flow) (Taking i e) k → (b : Bool) → ltb n k ≡ b → n < k
        go k q true t = ltb→lt n k (true_in (ltb n k) t)
        go k q false t =
            let early : q.before < n = omega (arith, q.total, ap weight q.wanted.1, nltb→le n k (false_in (ltb n k) t)) in
            absurd (T_not (found i e (ball n)) never (exit_found i e (ball n) k q (near_ball n s q.path early)))

        far : (k : ℕ) → ExitPath (configurations lo hi flow) (Taking i e) k → n < k
        far k q = go k q (ltb n k) refl

    pub computed_none : (i : ℕ) (e : Exit) (n : ℕ) → T (whole n) → T (not (found i e (ball n))) → NoDistance flow i e
    computed_none i e n w never = none_of_exit l i e
        (λ k p. T_not (found i e (ball n)) never (exit_found i e (ball n) k p (whole_ball n w p.path)))

-- ---- a flow's numbers, tested
abbrev pub numbered : Flow → Field → Bool
numbered flow (tape a) = ltb 0 a && leb a flow.tapes
numbered flow (output y) = true
numbered flow (variable v) = ltb 0 v && leb v flow.variables
numbered flow (target n) = true
numbered flow (constant c) = true

in_range_lem : (a n : ℕ) → T (ltb 0 a && leb a n) → (0 < a) × (a ≤ n)
in_range_lem a n h = let (p, q) = and_in (ltb 0 a) (leb a n) h in (ltb→lt 0 a p, leb→le a n q)

numbered_in : (flow : Flow) (f : Field) → T (numbered flow f) → Numbered flow f
numbered_in flow (tape a) h = in_range_lem a flow.tapes h
numbered_in flow (output y) h = tt
numbered_in flow (variable v) h = in_range_lem v flow.variables h
numbered_in flow (target n) h = tt
numbered_in flow (constant c) h = tt

abbrev pub every : {A : Type 0} → (A → Bool) → List A → Bool
every p [] = true
every p (x ∷ l) = p x && every p l

every_in : {A : Type 0} (p : A → Bool) (P : A → Type 0) → ((x : A) → T (p x) → P x) → (l : List A) → T (every p l) → All P l
every_in p P f [] h = tt
every_in p P f (x ∷ l) h = let (a, b) = and_in (p x) (every p l) h in (f x a, every_in p P f l b)

-- every field of a flow's lines is in its range
abbrev pub all_numbered : Flow → Bool
all_numbered flow = every (λ i. every (numbered flow) (fields i)) flow.instructions

pub legal_tested : (flow : Flow) → T (all_numbered flow) → LegalFlow (C1 flow) (C2 flow) flow
legal_tested flow h = legal_basic flow (λ i. all_get_d InRange (stop ∷ flow.instructions) i stop (tt, all) tt)
  where
    InRange : Instruction → Type 0
    InRange i = All (Numbered flow) (fields i)

    all : All InRange flow.instructions
    all = every_in (λ i. every (numbered flow) (fields i)) InRange
        (λ i. every_in (numbered flow) (Numbered flow) (numbered_in flow) (fields i)) flow.instructions h
