-- Counting by lists. A list that holds nothing twice is at most as long as a list that has its members, since each member can be taken out
-- of the longer list once. So two censuses of one predicate have one length. A loop keeps "nothing twice" by index; `listed` goes between.
use mathlib.Core.Path.{◌≡◌, refl, sym, ap, ◌∙◌, subst}
use mathlib.Core.List.{List, [], ◌∷◌, map}
use mathlib.Core.Logic.{inl, inr}
use Prim.Native.Nat.{ℕ, zero, suc, ◌+◌, ◌<◌, ◌≤◌}
use native.Mathlib.Decide.{dec_lt}
use native.Mathlib.Omega.{arith}
use lib.ListN.{length}
use Rattle.graph.specs.Lists.{In, Once, Census, MoreThan}
use Rattle.graph.specs.Inner.Table.{Different}

module _ {A : Type 0} where
  -- m without its first a
  unfoldable without : (a : A) (m : List A) → In a m → List A
  without a (b ∷ m) (inl e) = m
  without a (b ∷ m) (inr h) = b ∷ without a m h
  without a [] x' = elim x' [ ]

  length_without : (a : A) (m : List A) (h : In a m) → suc (length (without a m h)) ≡ length m
  unfolding without
  length_without a (b ∷ m) (inl e) = refl
  length_without a (b ∷ m) (inr h) = ap suc (length_without a m h)
  length_without a [] h = elim h [ ]

  in_without : (a : A) (m : List A) (h : In a m) (c : A) → (c ≡ a → ⊥) → In c m → In c (without a m h)
  unfolding without
  in_without a (b ∷ m) (inl e) c ne (inl q) = absurd (ne (q ∙ sym e))
  in_without a (b ∷ m) (inl e) c ne (inr q) = q
  in_without a (b ∷ m) (inr h) c ne (inl q) = inl q
  in_without a (b ∷ m) (inr h) c ne (inr q) = inr (in_without a m h c ne q)
  in_without a [] h c ne _ = elim h [ ]

  pub once_le : (l m : List A) → Once l → ((a : A) → In a l → In a m) → length l ≤ length m
  once_le [] m o f = omega arith
  once_le (a ∷ l) m o f =
      let h = f a (inl refl) in
      let rest : (c : A) → In c l → In c (without a m h) = λ c k. in_without a m h c (λ e. o.0 (subst (λ (x : A). In x l) e k)) (f c (inr k)) in
      omega (arith, length_without a m h, once_le l (without a m h) o.1 rest)

  pub once-same : (l m : List A) → Once l → Once m → ((a : A) → In a l → In a m) → ((a : A) → In a m → In a l) → length l ≡ length m
  once-same l m o p f g = omega (arith, once_le l m o f, once_le m l p g)

  -- ---- by index
  -- no two of f 0 .. f (n - 1) are equal

  pub different-same : (f : ℕ → A) (n : ℕ) → Different f n → (i j : ℕ) → i < n → j < n → f i ≡ f j → i ≡ j
  different-same f n d i j l m e = go (dec_lt i j) (dec_lt j i)
    where
      go : Dec (i < j) → Dec (j < i) → i ≡ j
      go (yes a) b = absurd (d i j a m e)
      go (no a) (yes b) = absurd (d j i b l (sym e))
      go (no a) (no b) = omega arith

  -- f 0 .. f (n - 1)
  unfoldable pub listed : (ℕ → A) → ℕ → List A
  listed f zero = []
  listed f (suc n) = f zero ∷ listed (λ i. f (suc i)) n

  pub length_listed : (f : ℕ → A) (n : ℕ) → length (listed f n) ≡ n
  unfolding listed
  length_listed f zero = refl
  length_listed f (suc n) = ap suc (length_listed (λ i. f (suc i)) n)

  pub listed_in : (f : ℕ → A) (n i : ℕ) → i < n → In (f i) (listed f n)
  unfolding listed
  listed_in f zero i h = absurd (omega arith)
  listed_in f (suc n) zero h = inl refl
  listed_in f (suc n) (suc i) h = inr (listed_in (λ j. f (suc j)) n i (omega arith))

  pub in_listed : (f : ℕ → A) (n : ℕ) (x : A) → In x (listed f n) → (i : ℕ) × (i < n) × (f i ≡ x)
  unfolding listed
  in_listed f (suc n) x (inl e) = (0, omega arith, sym e)
  in_listed f (suc n) x (inr h) = let (i, k, e) = in_listed (λ j. f (suc j)) n x h in (suc i, omega arith, e)
  in_listed f zero x x3 = elim x3 [ ]

  pub listed_once : (f : ℕ → A) (n : ℕ) → Different f n → Once (listed f n)
  unfolding listed
  listed_once f zero d = tt
  listed_once f (suc n) d = (
    λ h. let (i, k, e) = in_listed (λ j. f (suc j)) n (f zero) h in d zero (suc i) (omega arith) (omega arith) (sym e),
    listed_once (λ j. f (suc j)) n (λ i j a k. d (suc i) (suc j) (omega arith) (omega arith)),
  )

  -- ---- censuses
  module _ {P : A → Type 0} where
    pub census_unique : (l m : List A) → Census P l → Census P m → length l ≡ length m
    census_unique l m x y = once-same l m x.once y.once (λ c h. y.all c (x.only c h)) (λ c h. x.all c (y.only c h))

    pub more_than_census : (n : ℕ) (l : List A) → MoreThan P n → Census P l → n < length l
    more_than_census n l x y = omega (arith, x.more, once_le x.list l x.once (λ c h. y.all c (x.only c h)))

    pub census_fits_not_more : (n : ℕ) (l : List A) → Census P l → length l ≤ n → MoreThan P n → ⊥
    census_fits_not_more n l y h x = omega (arith, more_than_census n l x y)

    pub different-more_than : (f : ℕ → A) (n : ℕ) → Different f (n + 1) → ((i : ℕ) → i < n + 1 → P (f i)) → MoreThan P n
    different-more_than f n d p =
        record {
          list = listed f (n + 1);
          once = listed_once f (n + 1) d;
          only = λ x h. let (i, k, e) = in_listed f (n + 1) x h in subst P e (p i k);
          more = omega (arith, length_listed f (n + 1));
        }

-- ---- along a function that is one to one
module _ {A B : Type 0} (f : A → B) where
  pub in_map : (a : A) (l : List A) → In a l → In (f a) (map f l)
  in_map a (b ∷ l) (inl e) = inl (ap f e)
  in_map a (b ∷ l) (inr h) = inr (in_map a l h)
  in_map a [] x' = elim x' [ ]

  pub map_in : (b : B) (l : List A) → In b (map f l) → (a : A) × (In a l) × (f a ≡ b)
  map_in b (a ∷ l) (inl e) = (a, inl refl, sym e)
  map_in b (a ∷ l) (inr h) = let (x, p, q) = map_in b l h in (x, inr p, q)
  map_in b [] x' = elim x' [ ]

  pub once-map : (l : List A) → Once l → ((a b : A) → In a l → In b l → f a ≡ f b → a ≡ b) → Once (map f l)
  once-map [] o one = tt
  once-map (a ∷ l) o one = (
    λ h. let (b, k, e) = map_in (f a) l h in o.0 (subst (λ (x : A). In x l) (one b a (inr k) (inl refl) e) k),
    once-map l o.1 (λ b c h k. one b c (inr h) (inr k)),
  )

  pub census-map : (P : A → Type 0) (Q : B → Type 0) → ((a : A) → P a → Q (f a)) → ((b : B) → Q b → (a : A) × (P a) × (f a ≡ b))
      → ((a b : A) → P a → P b → f a ≡ f b → a ≡ b) → (l : List A) → Census P l → Census Q (map f l)
  census-map P Q there back one l c =
      record {
        once = once-map l c.once (λ a b h k. one a b (c.only a h) (c.only b k));
        all = λ b q. let (a, p, e) = back b q in subst (λ (x : B). In x (map f l)) e (in_map a l (c.all a p));
        only = λ b h. let (a, k, e) = map_in b l h in subst Q e (there a (c.only a k));
      }
