-- The fan over v: the words that a read of v leads to from one configuration. Members by records from C1 to C2 differ in v's digit only,
-- since no rank counts such a value; so each is the first member, with v at C1, and a multiple of 1 in lane v.
use mathlib.Core.Path.{◌≡◌, refl, sym, ap, ap₂, ◌∙◌, subst}
use mathlib.Core.Bool.{Bool, true, false, not, cond, ◌&&◌, ◌||◌}
use mathlib.Core.List.{List, [], ◌∷◌, map}
use Prim.Native.Nat.{ℕ, zero, suc, ◌+◌, ◌*◌, ◌-◌, ◌<◌, ◌≤◌}
use native.Mathlib.Omega.{arith}
use native.Mathlib.Nat.{mul_left_comm}
use lib.ListN.{length, get_or, set}
use lib.Seq.{set-set, set-get_or, get_or-set_same}
use lib.Dec.{T, leb, eqb}
use borrow.Author.Tests.{lt-leb, ne_eqb}
use Rattle.model.specs.Inner.Lists.{All}
use Rattle.model.proofs.Lists.{all_of, set-map}
use Rattle.pattern_word.specs.Inner.Digits.{digits, undigits}
use Rattle.pattern_word.specs.Inner.Pattern.{Width, lane, lanes, low, high, within, member, different_within, lane_code, codes_of, values_of}
use Rattle.pattern_word.specs.Inner.Pattern.{store_of, value_of, word_of, assign_of, unit_of, Valid}
use Rattle.pattern_word.proofs.Digits.{getD-map-lt}
use Rattle.pattern_word.proofs.Ranks.{code_inside, length_codes, value-inside}
use Rattle.pattern_word.proofs.Recalled.{lane_inside}
use Rattle.pattern_word.proofs.Stored.{store_set}
use Rattle.pattern_word.proofs.FourLanes.{values_with, length-lanes, length_with, stored_four, lanes-assign, assign_fits}

-- ---- a count from p to q does not depend on a value outside
pub within-apart : (p q x y : ℕ) → within p q x ≡ true → within p q y ≡ false → eqb x y ≡ false
within-apart p q x y h k = ne_eqb x y (λ e. clash (sym h ∙ ap (within p q) e ∙ k))
  where
    clash : true ≡ false → ⊥
    clash t = subst (λ (b : Bool). T b) t tt

pub member-set : (x v y y' : ℕ) (s : List ℕ) → eqb x y ≡ false → eqb x y' ≡ false → member x (set s v y) ≡ member x (set s v y')
unfolding member
member-set x v y y' [] k k' = refl
member-set x zero y y' (a ∷ s) k k' = rw (k, k')
member-set x (suc v) y y' (a ∷ s) k k' = ap (λ (b : Bool). eqb x a || b) (member-set x v y y' s k k')

among-set : (p q v y y' : ℕ) (s : List ℕ) → within p q y ≡ false → within p q y' ≡ false → different_within p q (set s v y) ≡ different_within p q (set s v y')
unfolding different_within
among-set p q v y y' [] k k' = refl
among-set p q zero y y' (a ∷ s) k k' = rw (k, k')
among-set p q (suc v) y y' (a ∷ s) k k' = go (within p q a) refl (among-set p q v y y' s k k')
  where
    go : (b : Bool) → within p q a ≡ b → different_within p q (set s v y) ≡ different_within p q (set s v y')
        → cond (b && not (member a (set s v y))) (suc (different_within p q (set s v y))) (different_within p q (set s v y))
        ≡ cond (b && not (member a (set s v y'))) (suc (different_within p q (set s v y'))) (different_within p q (set s v y'))
    go true h e = rw (member-set a v y y' s (within-apart p q a y h k) (within-apart p q a y' h k'), e)
    go false h e = e

pub within-under : (p q x : ℕ) → x < p → within p q x ≡ false
within-under p q x h = rw (lt-leb p x h)

pub within-over : (p q x : ℕ) → q < x → within p q x ≡ false
within-over p q x h = rw (lt-leb x q h) (and_false (leb p x))
  where
    and_false : (b : Bool) → b && false ≡ false
    and_false true = refl
    and_false false = refl

pub beyond-high : (w x y : ℕ) → y ≤ high w → within (suc (high w)) x y ≡ false
beyond-high w x y h = within-under (suc (high w)) x y (omega arith)

pub beyond-low : (x y : ℕ) → low ≤ y → within x (low - 1) y ≡ false
beyond-low x y h = within-over x (low - 1) y (omega arith)

-- ---- nor does the code of x, if no count for it reaches the value
abbrev pub Uncounted : (w x y : ℕ) → Type 0
Uncounted w x y = (within (suc (high w)) x y ≡ false) × (within x 15 y ≡ false)

pub code_set : (w x v y y' : ℕ) (s : List ℕ) → Uncounted w x y → Uncounted w x y' → lane_code w (set s v y) x ≡ lane_code w (set s v y') x
unfolding lane_code
code_set w x v y y' s (a, b) (a', b') = rw (among-set (suc (high w)) x v y y' s a a', among-set x 15 v y y' s b b')

-- ---- with v inside, no code but its own depends on the value of v
code_fan : (w x v y y' : ℕ) (s : List ℕ) → low ≤ y → y ≤ high w → low ≤ y' → y' ≤ high w → lane_code w (set s v y) x ≡ lane_code w (set s v y') x
code_fan w x v y y' s a b a' b' = code_set w x v y y' s (beyond-high w x y b, beyond-low x y a) (beyond-high w x y' b', beyond-low x y' a')

pub map-all : (f g : ℕ → ℕ) (l : List ℕ) → All (λ x. f x ≡ g x) l → map f l ≡ map g l
map-all f g [] a = refl
map-all f g (x ∷ l) (h, a) = ap₂ ◌∷◌ h (map-all f g l a)

pub map_ext : (f g : ℕ → ℕ) (l : List ℕ) → ((x : ℕ) → f x ≡ g x) → map f l ≡ map g l
map_ext f g l h = map-all f g l (all_of (λ x. f x ≡ g x) h l)

codes_fan : (w v y : ℕ) (s : List ℕ) → 0 < w → low ≤ y → y ≤ high w → codes_of w (set s v y) ≡ set (codes_of w (set s v low)) v (y - low)
unfolding codes_of
codes_fan w v y s h a b =
    map_ext (lane_code w (set s v y)) f (set s v y) (λ x. code_fan w x v y low s a b (omega arith) (omega arith))
    ∙ sym (set-map f s v y)
    ∙ ap (set (map f s) v) (sym (code_inside w y (set s v low) b a))
    ∙ sym (set-set (map f s) v (f low) (y - low))
    ∙ ap (λ (l : List ℕ). set l v (y - low)) (set-map f s v low)
  where
    f : ℕ → ℕ
    f = lane_code w (set s v low)

-- ---- 1 in lane v, added k times
add_lane : (l : List ℕ) (v k : ℕ) → v < length l → get_or l v 0 ≡ 0 → undigits lane (set l v k) ≡ undigits lane l + k * unit_of v
unfolding undigits unit_of
add_lane [] v k h e = absurd (omega arith)
add_lane (x ∷ l) zero k h e = omega (arith, e)
add_lane (x ∷ l) (suc v) k h e = rw (add_lane l v k (omega arith) e) (spread_out x (undigits lane l) k (unit_of v))
  where
    spread_out : (x u k m : ℕ) → x + lane * (u + k * m) ≡ x + lane * u + k * (lane * m)
    spread_out x u k m = omega (arith, mul_left_comm k lane m)

module _ (w : ℕ) (h : Width w) where
  -- ---- the first member: the code of v is 0, and so is its digit
  module _ (p v : ℕ) (l : v < 4) where
    abbrev codes : List ℕ
    codes = codes_of w (values_with w p v low)

    four : length codes ≡ 4
    four = length_codes w (values_with w p v low) ∙ length_with w p v low

    -- a member by a record from C1 to C2
    members : (k : ℕ) → k < w → codes_of w (values_with w p v (low + k)) ≡ set codes v k
    members k b =
        codes_fan w v (low + k) (values_of w (lanes w p)) h.some (omega arith) (omega arith) ∙ ap (set codes v) (omega arith)

    code_zero : get_or codes v 0 ≡ 0
    code_zero = ap (λ (c : List ℕ). get_or c v 0) (members 0 h.some) ∙ get_or-set_same codes v 0 0 (omega (arith, four))

    pub lane-zero : get_or (lanes w (assign_of w p v low)) v 0 ≡ 0
    lane-zero = ap (λ (c : List ℕ). get_or c v 0) (lanes-assign w h p v low) ∙ code_zero

    stored : (k : ℕ) → k < w → store_of w (codes_of w (values_with w p v (low + k))) ≡ set (store_of w codes) v k
    stored k b =
        ap (store_of w) (members k b)
        ∙ store_set w k b codes v (omega (arith, four)) (subst (λ (c : ℕ). c < w) (sym code_zero) h.some)

    pub fan_sum : (k : ℕ) → k < w → assign_of w p v (low + k) ≡ assign_of w p v low + k * unit_of v
    unfolding assign_of word_of
    fan_sum k b = ap (undigits lane) (stored k b) ∙ add_lane (store_of w codes) v k (omega (arith, size)) digit_zero
      where
        size : length (store_of w codes) ≡ 4
        size = stored_four w h (values_with w p v low) (length_with w p v low)

        digit_zero : get_or (store_of w codes) v 0 ≡ 0
        digit_zero = ap (λ (d : List ℕ). get_or d v 0) (stored 0 h.some) ∙ get_or-set_same (store_of w codes) v 0 0 (omega (arith, size))

  -- ---- `shifted`: the word after and the word before are members of one fan
  abbrev pub Inner : (v y : ℕ) → Type 0
  Inner v y = (v < 4) × (low ≤ y) × (y ≤ high w)

  module _ (p v d y u : ℕ) (k : Valid w p) (lies : Inner v y) (is : (d ≡ get_or (digits lane 4 p) v 0) × (d < w)) (eu : u ≡ unit_of v) where
    l : v < 4
    l = lies.0

    a : low ≤ y
    a = lies.1

    b : y ≤ high w
    b = lies.2

    inside : d < w
    inside = is.1

    at : get_or (values_of w (lanes w p)) v 0 ≡ low + d
    unfolding values_of
    at =
        getD-map-lt (value_of w) (lanes w p) v 0 0 (omega (arith, length-lanes w p))
        ∙ ap (value_of w) (lane_inside w p h v l (subst (λ (n : ℕ). n < w) is.0 inside) ∙ sym is.0)
        ∙ sym (value-inside w d inside)

    own : assign_of w p v (low + d) ≡ p
    unfolding assign_of
    own = ap (word_of w) (ap (set (values_of w (lanes w p)) v) (sym at) ∙ set-get_or (values_of w (lanes w p)) v 0) ∙ k

    before : p ≡ assign_of w p v low + d * u
    before = sym own ∙ fan_sum p v l d inside ∙ ap (λ (n : ℕ). assign_of w p v low + d * n) (sym eu)

    after : assign_of w p v y ≡ assign_of w p v low + (y - low) * u
    after =
        ap (assign_of w p v) (omega (arith, a)) ∙ fan_sum p v l (y - low) (omega (arith, a, b, h.some))
        ∙ ap (λ (n : ℕ). assign_of w p v low + (y - low) * n) (sym eu)

    pub shift_is : p - d * u + (y - low) * u ≡ assign_of w p v y
    shift_is = omega (arith, before, after)

    pub shift_fits : (d * u ≤ p) × ((y - low) * u ≤ assign_of w p v y) × (assign_of w p v y < 18446744073709551616)
    shift_fits = (omega (arith, before), omega (arith, after), omega (arith, assign_fits w h p v y))

  -- ---- `fan_at`, for a record from C1 to C2
  module _ (f v y u : ℕ) (lies : Inner v y) (ef : f ≡ assign_of w f v low) (eu : u ≡ unit_of v) where
    pub member-sum : f + (y - low) * u ≡ assign_of w f v y
    member-sum =
        ap₂ (λ (i j : ℕ). i + (y - low) * j) ef eu
        ∙ sym (fan_sum f v lies.0 (y - low) (let (l, a, b) = lies in omega (arith, h.some)))
        ∙ ap (assign_of w f v) (let (l, a, b) = lies in omega arith)

    pub member_fits : f + (y - low) * u < 18446744073709551616
    member_fits = omega (arith, member-sum, assign_fits w h f v y)
