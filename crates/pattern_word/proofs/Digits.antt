-- Digits and the number that they make: the digits of a number are below the radix, and make it again.
use mathlib.Core.Path.{◌≡◌, refl, ap, ap₂, ◌∙◌, subst}
use mathlib.Core.List.{List, [], ◌∷◌, map}
use Prim.Native.Nat.{ℕ, zero, suc, ◌+◌, ◌*◌, ◌/◌, ◌%◌, ◌<◌, ◌≤◌}
use native.Mathlib.Omega.{arith}
use native.Mathlib.Nat.{mod-lt, mod-eq_of_lt, add-mul-div_left, add-mul-mod_self_left, div-eq_of_lt, zero-add, mul-add, mul_assoc, mul-le-mul_left}
use lib.ListN.{length, get_or, set}
use Rattle.pattern_word.specs.Inner.Digits.{digits, undigits, Below}

pub length_digits : (r n x : ℕ) → length (digits r n x) ≡ n
unfolding digits
length_digits r zero x = refl
length_digits r (suc n) x = ap suc (length_digits r n (x / r))

pub digits-below : (r n x : ℕ) → 0 < r → Below r (digits r n x)
unfolding digits
digits-below r zero x h i = h
digits-below r (suc n) x h zero = mod-lt x h
digits-below r (suc n) x h (suc i) = digits-below r n (x / r) h i

pub below_set : (r : ℕ) (l : List ℕ) (i x : ℕ) → Below r l → x < r → Below r (set l i x)
below_set r [] i x h k j = h j
below_set r (y ∷ l) zero x h k zero = k
below_set r (y ∷ l) zero x h k (suc j) = h (suc j)
below_set r (y ∷ l) (suc i) x h k zero = h 0
below_set r (y ∷ l) (suc i) x h k (suc j) = below_set r l i x (λ q. h (suc q)) k j

-- the digits of the number that digits make
pub digits-undigits : (r n : ℕ) → 0 < r → (l : List ℕ) → length l ≡ n → Below r l → digits r n (undigits r l) ≡ l
unfolding digits undigits
digits-undigits r n h l e f = subst (λ (k : ℕ). digits r k (undigits r l) ≡ l) e (go l f)
  where
    least : (d k : ℕ) → d < r → (d + r * k) % r ≡ d
    least d k q = add-mul-mod_self_left d r k ∙ mod-eq_of_lt q

    rest : (d k : ℕ) → d < r → (d + r * k) / r ≡ k
    rest d k q = add-mul-div_left d k h ∙ ap (λ (j : ℕ). j + k) (div-eq_of_lt q) ∙ zero-add k

    go : (l : List ℕ) → Below r l → digits r (length l) (undigits r l) ≡ l
    go [] f = refl
    go (d ∷ l) f = ap₂ ◌∷◌ (least d (undigits r l) (f 0)) (ap (digits r (length l)) (rest d (undigits r l) (f 0)) ∙ go l (λ i. f (suc i)))

-- the number that the digits of a number make
pub bits_make : (x : ℕ) → undigits 2 (digits 2 3 x) ≡ x % 8
unfolding digits undigits
bits_make x = omega arith

-- how large a number n digits make
unfoldable pub power : (r n : ℕ) → ℕ
power r zero = 1
power r (suc n) = r * power r n

pub undigits-below : (r : ℕ) (l : List ℕ) → Below r l → undigits r l < power r (length l)
unfolding undigits power
undigits-below r [] h = omega arith
undigits-below r (d ∷ l) h = room r d (undigits r l) (power r (length l)) (h 0) (undigits-below r l (λ i. h (suc i)))
  where
    room : (r d u q : ℕ) → d < r → u < q → d + r * u < r * q
    room r d u q a b = let h : u + 1 ≤ q = omega arith in omega (arith, mul-le-mul_left r h, mul-add r u 1)

-- n digits do not see what is added in multiples of that
pub digits_low : (r n : ℕ) → 0 < r → (x k : ℕ) → digits r n (x + power r n * k) ≡ digits r n x
unfolding digits power
digits_low r zero h x k = refl
digits_low r (suc n) h x k =
    let e : x + r * power r n * k ≡ x + r * (power r n * k) = ap (λ (j : ℕ). x + j) (mul_assoc r (power r n) k) in
    ap (digits r (suc n)) e
    ∙ ap₂ ◌∷◌ (add-mul-mod_self_left x r (power r n * k)) (ap (digits r n) (add-mul-div_left x (power r n * k) h) ∙ digits_low r n h (x / r) k)

-- ---- lists of a known length
pub map-four : (f : ℕ → ℕ) (l : List ℕ) → length l ≡ 4 → f (get_or l 0 0) ∷ f (get_or l 1 0) ∷ f (get_or l 2 0) ∷ f (get_or l 3 0) ∷ [] ≡ map f l
map-four f [] h = absurd (omega arith)
map-four f (a ∷ []) h = absurd (omega arith)
map-four f (a ∷ b ∷ []) h = absurd (omega arith)
map-four f (a ∷ b ∷ c ∷ []) h = absurd (omega arith)
map-four f (a ∷ b ∷ c ∷ d ∷ []) h = refl
map-four f (a ∷ b ∷ c ∷ d ∷ e ∷ l) h = absurd (omega arith)

pub four-again : (l : List ℕ) → length l ≡ 4 → get_or l 0 0 ∷ get_or l 1 0 ∷ get_or l 2 0 ∷ get_or l 3 0 ∷ [] ≡ l
four-again l h = map-four (λ x. x) l h ∙ map_id l
  where
    map_id : (l : List ℕ) → map (λ x. x) l ≡ l
    map_id [] = refl
    map_id (x ∷ l) = ap (λ t. x ∷ t) (map_id l)

pub three : (l : List ℕ) → length l ≡ 3 → get_or l 0 0 ∷ get_or l 1 0 ∷ get_or l 2 0 ∷ [] ≡ l
three [] h = absurd (omega arith)
three (a ∷ []) h = absurd (omega arith)
three (a ∷ b ∷ []) h = absurd (omega arith)
three (a ∷ b ∷ c ∷ []) h = refl
three (a ∷ b ∷ c ∷ d ∷ l) h = absurd (omega arith)

-- ---- an element
pub getD-map-lt {ℓ} : {B : Type ℓ} (f : ℕ → B) (l : List ℕ) (i d : ℕ) (e : B) → i < length l → get_or (map f l) i e ≡ f (get_or l i d)
getD-map-lt f [] i d e h = absurd (omega arith)
getD-map-lt f (x ∷ l) zero d e h = refl
getD-map-lt f (x ∷ l) (suc i) d e h = getD-map-lt f l i d e (omega arith)
