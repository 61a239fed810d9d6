-- Laws on lists that the library leaves out: what holds of every element, and `get_or`, `set`, `map` and `replicate` together.
use mathlib.Core.Path.{◌≡◌, refl, sym, ap, ap₂, subst}
use mathlib.Core.List.{List, [], ◌∷◌, ◌++◌, map}
use mathlib.Core.Logic.{◌⊎◌, inl, inr}
use Prim.Native.Nat.{ℕ, zero, suc}
use lib.ListN.{get_or, set, replicate}
use Rattle.graph.specs.Lists.{In}
use Rattle.model.specs.Inner.Lists.{All}

module _ {A : Type 0} (P : A → Type 0) where
  pub all_in : (l : List A) (x : A) → All P l → In x l → P x
  all_in (y ∷ l) x (h, hs) (inl e) = subst P (sym e) h
  all_in (y ∷ l) x (h, hs) (inr k) = all_in l x hs k
  all_in [] x _ x5 = elim x5 [ ]

  pub all_of : ((x : A) → P x) → (l : List A) → All P l
  all_of f [] = tt
  all_of f (x ∷ l) = (f x, all_of f l)

  pub all_get_d : (l : List A) (i : ℕ) (d : A) → All P l → P d → P (get_or l i d)
  all_get_d [] i d h k = k
  all_get_d (x ∷ l) zero d (h, hs) k = h
  all_get_d (x ∷ l) (suc i) d (h, hs) k = all_get_d l i d hs k

  pub all_set : (l : List A) (i : ℕ) (x : A) → All P l → P x → All P (set l i x)
  all_set [] i x h k = tt
  all_set (y ∷ l) zero x (h, hs) k = (k, hs)
  all_set (y ∷ l) (suc i) x (h, hs) k = (h, all_set l i x hs k)

  pub all_snoc : (l : List A) (x : A) → All P l → P x → All P (l ++ (x ∷ []))
  all_snoc [] x h k = (k, tt)
  all_snoc (y ∷ l) x (h, hs) k = (h, all_snoc l x hs k)

  pub all_replicate : (n : ℕ) (x : A) → P x → All P (replicate n x)
  all_replicate zero x h = tt
  all_replicate (suc n) x h = (h, all_replicate n x h)

pub all_map : {A B : Type 0} (P : A → Type 0) (Q : B → Type 0) (f : A → B) → ((x : A) → P x → Q (f x)) → (l : List A) → All P l → All Q (map f l)
all_map P Q f g [] h = tt
all_map P Q f g (x ∷ l) (h, hs) = (g x h, all_map P Q f g l hs)

pub all_weaker : {A : Type 0} (P Q : A → Type 0) → ((x : A) → P x → Q x) → (l : List A) → All P l → All Q l
all_weaker P Q g [] h = tt
all_weaker P Q g (x ∷ l) (h, hs) = (g x h, all_weaker P Q g l hs)

pub map_same : {A : Type 0} (f : A → A) → ((x : A) → f x ≡ x) → (l : List A) → map f l ≡ l
map_same f h [] = refl
map_same f h (x ∷ l) = ap₂ ◌∷◌ (h x) (map_same f h l)

pub get_d_map : {A B : Type 0} (f : A → B) (l : List A) (n : ℕ) (d : A) (e : B) → f d ≡ e → get_or (map f l) n e ≡ f (get_or l n d)
get_d_map f [] n d e h = sym h
get_d_map f (x ∷ l) zero d e h = refl
get_d_map f (x ∷ l) (suc n) d e h = get_d_map f l n d e h

pub set-map : {A B : Type 0} (f : A → B) (l : List A) (n : ℕ) (a : A) → set (map f l) n (f a) ≡ map f (set l n a)
set-map f [] n a = refl
set-map f (x ∷ l) zero a = refl
set-map f (x ∷ l) (suc n) a = ap (λ t. f x ∷ t) (set-map f l n a)

pub map_replicate : {A B : Type 0} (f : A → B) (n : ℕ) (a : A) (b : B) → f a ≡ b → map f (replicate n a) ≡ replicate n b
map_replicate f zero a b h = refl
map_replicate f (suc n) a b h = ap₂ ◌∷◌ h (map_replicate f n a b h)

-- a row of like elements, read past its end too
pub get_d_like : {A : Type 0} (n i : ℕ) (a : A) → get_or (replicate n a) i a ≡ a
get_d_like zero i a = refl
get_d_like (suc n) zero a = refl
get_d_like (suc n) (suc i) a = get_d_like n i a

pub set_like : {A : Type 0} (n i : ℕ) (a : A) → set (replicate n a) i a ≡ replicate n a
set_like zero i a = refl
set_like (suc n) zero a = refl
set_like (suc n) (suc i) a = ap (λ t. a ∷ t) (set_like n i a)

-- ---- membership
pub in_left : {A : Type 0} (l m : List A) (x : A) → In x l → In x (l ++ m)
in_left (y ∷ l) m x (inl e) = inl e
in_left (y ∷ l) m x (inr h) = inr (in_left l m x h)
in_left {A = A} [] m x x3 = elim x3 [ ]

pub in_right : {A : Type 0} (l m : List A) (x : A) → In x m → In x (l ++ m)
in_right [] m x h = h
in_right (y ∷ l) m x h = inr (in_right l m x h)

pub in_either : {A : Type 0} (l m : List A) (x : A) → In x (l ++ m) → In x l ⊎ In x m
in_either [] m x h = inr h
in_either (y ∷ l) m x (inl e) = inl (inl e)
in_either (y ∷ l) m x (inr h) = later (in_either l m x h)
  where
    later : In x l ⊎ In x m → In x (y ∷ l) ⊎ In x m
    later (inl k) = inl (inr k)
    later (inr k) = inr k
