-- Membership, repetition and length of lists that are made of lists.
use mathlib.Core.Path.{◌≡◌, refl, sym, ap, ◌∙◌, subst}
use mathlib.Core.Bool.{Bool, true, false}
use mathlib.Core.List.{List, [], ◌∷◌, ◌++◌, map}
use mathlib.Core.Logic.{◌⊎◌, inl, inr}
use Prim.Native.Nat.{ℕ, zero, suc, ◌*◌, ◌^◌, ◌≤◌}
use native.Mathlib.Nat.{suc-mul, pow-zero, pow-succ'}
use native.Mathlib.Omega.{arith}
use lib.ListN.{length, length-append, length-map}
use lib.Dec.{T}
use Rattle.graph.specs.Lists.{In, Once}
use Rattle.graph.proofs.Counting.{in_map, map_in, once-map}
use Rattle.model.specs.Inner.Lists.{All}
use Rattle.model.proofs.Lists.{in_left, in_right, in_either}
use Rattle.model.proofs.Integers.{true_in}
use Rattle.outside.specs.Inner.Rows.{bind, led, rows, keep}

module _ {A : Type 0} where
  pub all-each : (P : A → Type 0) (l : List A) → ((x : A) → In x l → P x) → All P l
  all-each P [] f = tt
  all-each P (x ∷ l) f = (f x (inl refl), all-each P l (λ y h. f y (inr h)))

  pub once-append : (l m : List A) → Once l → Once m → ((x : A) → In x l → In x m → ⊥) → Once (l ++ m)
  once-append [] m o p apart = p
  once-append (a ∷ l) m o p apart = (λ h. go (in_either l m a h), once-append l m o.1 p (λ x h k. apart x (inr h) k))
    where
      go : In a l ⊎ In a m → ⊥
      go (inl h) = o.0 h
      go (inr h) = apart a (inl refl) h

module _ {A B : Type 0} (f : A → List B) where
  pub in_bind : (a : A) (b : B) (l : List A) → In a l → In b (f a) → In b (bind f l)
  unfolding bind
  in_bind a b (c ∷ l) (inl e) k = in_left (f c) (bind f l) b (subst (λ (x : A). In b (f x)) e k)
  in_bind a b (c ∷ l) (inr h) k = in_right (f c) (bind f l) b (in_bind a b l h k)
  in_bind a b [] x'' k = elim x'' [ ]

  pub bind_in : (b : B) (l : List A) → In b (bind f l) → (a : A) × (In a l) × (In b (f a))
  unfolding bind
  bind_in b [] h = absurd h
  bind_in b (c ∷ l) h = go (in_either (f c) (bind f l) b h) (bind_in b l)
    where
      go : In b (f c) ⊎ In b (bind f l) → (In b (bind f l) → (a : A) × (In a l) × (In b (f a))) → (a : A) × (In a (c ∷ l)) × (In b (f a))
      go (inl k) rest = (c, inl refl, k)
      go (inr k) rest = let (a, p, q) = rest k in (a, inr p, q)

  -- nothing stands twice if each part holds nothing twice and an element tells its part
  pub once-bind : (key : B → A) → ((a : A) (b : B) → In b (f a) → key b ≡ a) → (l : List A) → Once l → ((a : A) → In a l → Once (f a))
      → Once (bind f l)
  unfolding bind
  once-bind key tells [] o each = tt
  once-bind key tells (c ∷ l) o each =
      once-append (f c) (bind f l) (each c (inl refl)) (once-bind key tells l o.1 (λ a h. each a (inr h)))
      (λ b h k. let (a, p, q) = bind_in b l k in o.0 (subst (λ (x : A). In x l) (sym (tells a b q) ∙ tells c b h) p))

  pub length-bind : (n : ℕ) → ((a : A) → length (f a) ≡ n) → (l : List A) → length (bind f l) ≡ length l * n
  unfolding bind
  length-bind n each [] = omega arith
  length-bind n each (c ∷ l) = omega (arith, length-append (f c) (bind f l), each c, length-bind n each l, suc-mul (length l) n)

module _ {A : Type 0} where
  head : A → List A → A
  head d [] = d
  head d (a ∷ l) = a

  tailed : List A → List A
  tailed [] = []
  tailed (a ∷ l) = l

  pub in_led : (a : A) (t : List A) (heads : List A) (tails : List (List A)) → In a heads → In t tails → In (a ∷ t) (led heads tails)
  unfolding led
  in_led a t heads tails h k = in_bind (λ a. map (λ t. a ∷ t) tails) a (a ∷ t) heads h (in_map (λ t. a ∷ t) t tails k)

  pub led_in : (r : List A) (heads : List A) (tails : List (List A)) → In r (led heads tails)
      → (a : A) × (t : List A) × (In a heads) × (In t tails) × (a ∷ t ≡ r)
  unfolding led
  led_in r heads tails h =
      let (a, p, q) = bind_in (λ a. map (λ t. a ∷ t) tails) r heads h in
      let (t, k, e) = map_in (λ t. a ∷ t) r tails q in
      (a, t, p, k, e)

  pub once-led : (heads : List A) (tails : List (List A)) → Once heads → Once tails → Once (led heads tails)
  unfolding led head tailed bind
  once-led [] tails o p = tt
  once-led (d ∷ heads) tails o p =
      once-bind (λ a. map (λ t. a ∷ t) tails) (head d)
      (λ a b h. let (t, k, e) = map_in (λ t. a ∷ t) b tails h in ap (head d) (sym e))
      (d ∷ heads) o (λ a h. once-map (λ t. a ∷ t) tails p (λ s t h k e. ap tailed e))

  pub length-led : (heads : List A) (tails : List (List A)) → length (led heads tails) ≡ length heads * length tails
  unfolding led
  length-led heads tails = length-bind (λ a. map (λ t. a ∷ t) tails) (length tails) (λ a. length-map tails (λ t. a ∷ t)) heads

  -- ---- all rows of n elements
  pub in_rows : (l r : List A) → All (λ x. In x l) r → In r (rows l (length r))
  unfolding rows
  in_rows l [] h = inl refl
  in_rows l (a ∷ r) (h, hs) = in_led a r l (rows l (length r)) h (in_rows l r hs)

  pub rows-length : (l : List A) (n : ℕ) (r : List A) → In r (rows l n) → length r ≡ n
  unfolding rows
  rows-length l zero r (inl e) = ap length e
  rows-length l (suc n) r h =
      let (a, t, p, k, e) = led_in r l (rows l n) h in
      ap length (sym e) ∙ ap suc (rows-length l n t k)
  rows-length l zero r (inr x'') = elim x'' [ ]

  pub rows_all : (l : List A) (n : ℕ) (r : List A) → In r (rows l n) → All (λ x. In x l) r
  unfolding rows
  rows_all l zero r (inl e) = subst (All (λ x. In x l)) (sym e) tt
  rows_all l (suc n) r h =
      let (a, t, p, k, e) = led_in r l (rows l n) h in
      subst (All (λ x. In x l)) e (p, rows_all l n t k)
  rows_all l zero r (inr x'') = elim x'' [ ]

  pub once-rows : (l : List A) (n : ℕ) → Once l → Once (rows l n)
  unfolding rows
  once-rows l zero o = (λ h. h, tt)
  once-rows l (suc n) o = once-led l (rows l n) o (once-rows l n o)

  pub length-rows : (l : List A) (n : ℕ) → length (rows l n) ≡ length l ^ n
  unfolding rows
  length-rows l zero = sym (pow-zero (length l))
  length-rows l (suc n) = length-led l (rows l n) ∙ ap (λ k. length l * k) (length-rows l n) ∙ sym (pow-succ' (length l) n)

  -- ---- what a test keeps
  module _ (p : A → Bool) where
    pub keep_skips : (x : A) (l : List A) → p x ≡ false → keep p (x ∷ l) ≡ keep p l
    unfolding keep
    keep_skips x l e = ap (λ b. elim b [ true ↦ x ∷ keep p l | false ↦ keep p l ]) e

    pub keep_beside : (x : A) (l m : List A) → keep p l ≡ keep p m → keep p (x ∷ l) ≡ keep p (x ∷ m)
    unfolding keep
    keep_beside x l m e = ap (λ t. elim (p x) [ true ↦ x ∷ t | false ↦ t ]) e

    pub keep_in : (x : A) (l : List A) → In x (keep p l) → In x l × T (p x)
    unfolding keep
    keep_in x [] h = absurd h
    keep_in x (y ∷ l) h = go (p y) refl h (keep_in x l)
      where
        go : (b : Bool) → p y ≡ b → In x (elim b [ true ↦ y ∷ keep p l | false ↦ keep p l ]) → (In x (keep p l) → In x l × T (p x))
            → In x (y ∷ l) × T (p x)
        go true e (inl q) rest = (inl q, subst (λ (z : A). T (p z)) (sym q) (true_in (p y) e))
        go true e (inr k) rest = let (a, b) = rest k in (inr a, b)
        go false e k rest = let (a, b) = rest k in (inr a, b)

    pub in_keep : (x : A) (l : List A) → In x l → T (p x) → In x (keep p l)
    unfolding keep
    in_keep x (y ∷ l) h t = go (p y) refl h (λ k. in_keep x l k t)
      where
        go : (b : Bool) → p y ≡ b → In x (y ∷ l) → (In x l → In x (keep p l)) → In x (elim b [ true ↦ y ∷ keep p l | false ↦ keep p l ])
        go true e (inl q) rest = inl q
        go true e (inr k) rest = inr (rest k)
        go false e (inl q) rest = absurd (subst T (ap p q ∙ e) t)
        go false e (inr k) rest = rest k
    in_keep x [] h t = elim h [ ]

    pub once-keep : (l : List A) → Once l → Once (keep p l)
    unfolding keep
    once-keep [] o = tt
    once-keep (y ∷ l) o = go (p y) (once-keep l o.1)
      where
        go : (b : Bool) → Once (keep p l) → Once {A = A} (elim b [ true ↦ y ∷ keep p l | false ↦ keep p l ])
        go true rest = (λ h. o.0 (keep_in y l h).0, rest)
        go false rest = rest

    pub length-keep : (l : List A) → length (keep p l) ≤ length l
    unfolding keep
    length-keep [] = omega arith
    length-keep (y ∷ l) = go (p y) (length-keep l)
      where
        go : (b : Bool) → length (keep p l) ≤ length l → length {A = A} (elim b [ true ↦ y ∷ keep p l | false ↦ keep p l ]) ≤ suc (length l)
        go true h = omega arith
        go false h = omega arith
