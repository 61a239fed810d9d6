-- Lists that hold nothing twice, and counting by them.
use Rattle.std.specs.Prelude.{◌≡◌, List, [], ◌∷◌, ◌⊎◌, ℕ, ◌<◌, length}

-- membership in a list
abbrev pub In : {A : Type 0} → A → List A → Type 0
In x [] = ⊥
In x (y ∷ ys) = (x ≡ y) ⊎ In x ys

-- a list that holds nothing twice
abbrev pub Once : {A : Type 0} → List A → Type 0
Once [] = Unit {0}
Once (x ∷ xs) = (In x xs → ⊥) × Once xs

-- a census of what is P holds each such thing once and nothing else; its length is their number
pub record Census {A : Type 0} (P : A → Type 0) (list : List A) : Type 0 where
  pub once : Once list
  pub all : (x : A) → P x → In x list
  pub only : (x : A) → In x list → P x

-- more than n things are P: some list holds more than n of them, each once
pub record MoreThan {A : Type 0} (P : A → Type 0) (n : ℕ) : Type 0 where
  pub list : List A
  pub once : Once list
  pub only : (x : A) → In x list → P x
  pub more : n < length list
