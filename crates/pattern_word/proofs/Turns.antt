-- Lists that a loop writes in place, or goes through: one turn, and the end.
use mathlib.Core.Path.{◌≡◌, refl, sym, ap, ◌∙◌}
use mathlib.Core.List.{List, [], ◌∷◌, ◌++◌, map}
use Prim.Native.Nat.{ℕ, zero, suc, ◌+◌, ◌<◌, ◌≤◌}
use native.Mathlib.Omega.{arith}
use lib.ListN.{length, get_or, set, take, drop, take-append-drop, drop_of_length-le}
use Rattle.std.proofs.lemmas.List.{drop-drop, at_drop_more}

-- F makes what is still to be written
module _ (F : List ℕ → List ℕ) where
  written : (l : List ℕ) (i y : ℕ) → i < length l → take (suc i) (set l i y) ++ F (drop (suc i) (set l i y)) ≡ take i l ++ (y ∷ F (drop (suc i) l))
  written [] i y h = absurd (omega arith)
  written (x ∷ l) zero y h = refl
  written (x ∷ l) (suc i) y h = ap (λ (r : List ℕ). x ∷ r) (written l i y (omega arith))

  -- y is written in place i
  pub write_turn : (l : List ℕ) (i y : ℕ) → i < length l → take (i + 1) (set l i y) ++ F (drop (i + 1) (set l i y)) ≡ take i l ++ (y ∷ F (drop (i + 1) l))
  write_turn l i y h = let e : i + 1 ≡ suc i = omega arith in rw e (written l i y h)

  pub all_written : F [] ≡ [] → (l : List ℕ) (i : ℕ) → length l ≤ i → l ≡ take i l ++ F (drop i l)
  all_written e l i h = sym (take-append-drop i l) ∙ ap (λ (r : List ℕ). take i l ++ r) (drop_of_length-le l {i = i} h ∙ sym (ap F (drop_of_length-le l {i = i} h) ∙ e))

-- f is applied at place i
pub map_turn : (f : ℕ → ℕ) (l : List ℕ) (i : ℕ) → i < length l
    → take (i + 1) (set l i (f (get_or l i 0))) ++ map f (drop (i + 1) (set l i (f (get_or l i 0)))) ≡ take i l ++ map f (drop i l)
map_turn f l i h = write_turn (map f) l i (f (get_or l i 0)) h ∙ ap (λ (r : List ℕ). take i l ++ r) (sym (at_drop_more (map f) l i 0 h))

-- the first of what is left of a list
pub head-drop : (l : List ℕ) (i : ℕ) → get_or (drop i l) 0 0 ≡ get_or l i 0
head-drop [] zero = refl
head-drop [] (suc i) = refl
head-drop (x ∷ l) zero = refl
head-drop (x ∷ l) (suc i) = head-drop l i

-- a list written so far, m, and the list as it was, l: what is left of both is the same
pub rest_kept : (m l : List ℕ) (i y : ℕ) → drop i m ≡ drop i l → drop (i + 1) (set m i y) ≡ drop (i + 1) l
rest_kept m l i y e = let s : i + 1 ≡ suc i = omega arith in rw s (past m i) ∙ sym (drop-drop 1 i m) ∙ ap (drop 1) e ∙ drop-drop 1 i l
  where
    past : (l : List ℕ) (i : ℕ) → drop (suc i) (set l i y) ≡ drop (suc i) l
    past [] i = refl
    past (x ∷ l) zero = refl
    past (x ∷ l) (suc i) = past l i
