-- Lists of lists: all rows of n elements out of a list, and what a test keeps of a list.
use Rattle.std.specs.Prelude.{Bool, true, false, List, [], ◌∷◌, ◌++◌, map, ℕ, zero, suc}

module _ {A B : Type 0} where
  -- what f gives for each element, one after the other
  unfoldable pub bind : (A → List B) → List A → List B
  bind f [] = []
  bind f (a ∷ l) = f a ++ bind f l

module _ {A : Type 0} where
  -- the rows one after another
  unfoldable pub flat : List (List A) → List A
  flat rows = bind (λ r. r) rows

  -- each tail, led by each head
  unfoldable pub led : List A → List (List A) → List (List A)
  led heads tails = bind (λ a. map (λ t. a ∷ t) tails) heads

  -- all rows of n elements of l; they rise if l does, by the first element, then the second and on
  unfoldable pub rows : List A → ℕ → List (List A)
  rows l zero = [] ∷ []
  rows l (suc n) = led l (rows l n)

  unfoldable pub keep : (A → Bool) → List A → List A
  keep p [] = []
  keep p (x ∷ l) = elim (p x) [ true ↦ x ∷ keep p l | false ↦ keep p l ]
