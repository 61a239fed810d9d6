-- Keys and slots: bounds, how a key is made from the last rank to the first, and that a slot tells its entry.
use mathlib.Core.Path.{◌≡◌, refl, sym, ap, ap₂}
use mathlib.Core.List.{List, [], ◌∷◌}
use Prim.Native.Nat.{ℕ, zero, suc, ◌+◌, ◌*◌, ◌/◌, ◌%◌, ◌<◌, ◌≤◌}
use native.Mathlib.Omega.{arith}
use lib.ListN.{length, get_or, drop, drop_of_length-le}
use Rattle.model.specs.Inner.Lists.{All}
use Rattle.outside_row.specs.Inner.Table.{key_of, slot_of}
use Rattle.outside_row.specs.Inner.Filling.{ones_of}

-- numbers from 0 to 7
abbrev pub Octal : List ℕ → Type 0
Octal l = All (λ b. b < 8) l

pub key_below : (l : List ℕ) → Octal l → length l ≤ 4 → key_of l < 4096
unfolding key_of
key_below [] a h = omega arith
key_below (b ∷ []) a h = omega arith
key_below (b ∷ c ∷ []) a h = omega arith
key_below (b ∷ c ∷ d ∷ []) a h = omega arith
key_below (b ∷ c ∷ d ∷ e ∷ []) a h = omega arith
key_below (b ∷ c ∷ d ∷ e ∷ f ∷ l) a h = absurd (omega arith)

pub slot_below : (l : List ℕ) → Octal l → length l ≤ 4 → slot_of l < 4681
unfolding slot_of
slot_below [] a h = omega arith
slot_below (b ∷ []) a h = omega arith
slot_below (b ∷ c ∷ []) a h = omega arith
slot_below (b ∷ c ∷ d ∷ []) a h = omega arith
slot_below (b ∷ c ∷ d ∷ e ∷ []) a h = omega arith
slot_below (b ∷ c ∷ d ∷ e ∷ f ∷ l) a h = absurd (omega arith)

-- the first number of a key, and the key of the others
pub key-head : (l : List ℕ) → Octal l → key_of l % 8 ≡ get_or l 0 0
unfolding key_of
key-head [] a = omega arith
key-head (b ∷ l) (h, a) = omega arith

pub key_rest : (l : List ℕ) → Octal l → key_of l / 8 ≡ key_of (drop 1 l)
unfolding key_of
key_rest [] a = omega arith
key_rest (b ∷ l) (h, a) = omega arith

pub slot_key : (l : List ℕ) → slot_of l ≡ key_of l + ones_of (length l)
unfolding slot_of key_of ones_of
slot_key [] = refl
slot_key (b ∷ l) = omega (arith, slot_key l)

key_step : (l : List ℕ) (i : ℕ) → i < length l → key_of (drop i l) ≡ get_or l i 0 + 8 * key_of (drop (suc i) l)
unfolding key_of
key_step [] i h = absurd (omega arith)
key_step (b ∷ l) zero h = refl
key_step (b ∷ l) (suc i) h = key_step l i (omega arith)

pub key-end : (l : List ℕ) (i : ℕ) → length l ≡ i → 0 ≡ key_of (drop i l)
unfolding key_of
key-end l i h = ap key_of (sym (drop_of_length-le l {i = i} (omega arith)))

pub key_more : (l : List ℕ) (i j k b : ℕ) → j + 1 ≡ i → j < length l → k ≡ key_of (drop i l) → b ≡ get_or l j 0 → 8 * k + b ≡ key_of (drop j l)
key_more l i j k b e h p q =
    let next : i ≡ suc j = omega arith in
    omega (arith, key_step l j h, ap (λ (x : ℕ). key_of (drop x l)) next)

pub all_drop : (i : ℕ) (l : List ℕ) → Octal l → Octal (drop i l)
all_drop zero l a = a
all_drop (suc i) [] a = a
all_drop (suc i) (b ∷ l) a = all_drop i l a.1

pub slot_tells : (l m : List ℕ) → Octal l → Octal m → slot_of l ≡ slot_of m → l ≡ m
unfolding slot_of
slot_tells [] [] a b e = refl
slot_tells [] (y ∷ m) a b e = absurd (omega arith)
slot_tells (x ∷ l) [] a b e = absurd (omega arith)
slot_tells (x ∷ l) (y ∷ m) a b e = ap₂ ◌∷◌ (omega arith) (slot_tells l m a.1 b.1 (omega arith))
