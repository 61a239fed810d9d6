-- A code lies inside, above or below, and has its mark by that. Two codes are compared in nine cases, by their positions: `less`
-- answers by these laws.
use mathlib.Core.Path.{◌≡◌, refl, ap, ap₂}
use mathlib.Core.Bool.{Bool, true, false}
use Prim.Native.Nat.{ℕ, zero, suc, ◌+◌, ◌*◌, ◌-◌, ◌<◌, ◌≤◌}
use native.Mathlib.Omega.{arith}
use lib.IntN.{ℤ, pos, ◌+ℤ◌}
use lib.Dec.{ltb, ltb→lt, lt→ltb}
use borrow.Author.Tests.{ltb-true, ltb-false, lt-ltb, le-ltb}
use Rattle.model.specs.Pattern.{above, inside, below}
use Rattle.model.specs.Inner.Marks.{less_mark}
use Rattle.model.proofs.Integers.{same_test}
use Rattle.pattern_word.specs.Inner.Pattern.{mark_of, less_of}
use Rattle.pattern_word.specs.Inner.Position.{position_of}
use Rattle.pattern_word.specs.declared.Position.{Position}
use Rattle.pattern_word.specs.declared.Position.TheVariants.{Below, Inside, Above}

-- ---- where a code lies, and its mark
pub mark_of-inside : (lo : ℤ) (w c : ℕ) → c < w → mark_of lo w c ≡ inside (lo +ℤ pos c)
unfolding mark_of
mark_of-inside lo w c h = rw (lt-ltb c w h)

pub mark-above : (lo : ℤ) (w c n : ℕ) → c + 1 ≡ w + n → 0 < n → n ≤ 4 → mark_of lo w c ≡ above n
unfolding mark_of
mark-above lo w c n e p q = rw (le-ltb c w (omega arith), lt-ltb c (w + 4) (omega arith)) (ap above (omega arith))

pub mark-below : (lo : ℤ) (w c n : ℕ) → c + 1 ≡ w + 4 + n → 0 < n → mark_of lo w c ≡ below n
unfolding mark_of
mark-below lo w c n e p = rw (le-ltb c w (omega arith), le-ltb c (w + 4) (omega arith)) (ap below (omega arith))

pub data Lies (lo : ℤ) (w c : ℕ) : Type 0 where
  lies_inside : c < w → mark_of lo w c ≡ inside (lo +ℤ pos c) → Lies lo w c
  lies_above : (n : ℕ) → c + 1 ≡ w + n → 0 < n → n ≤ 4 → mark_of lo w c ≡ above n → Lies lo w c
  lies_below : (n : ℕ) → c + 1 ≡ w + 4 + n → 0 < n → mark_of lo w c ≡ below n → Lies lo w c

pub lies : (lo : ℤ) (w c : ℕ) → Lies lo w c
lies lo w c = go (ltb c w) (ltb c (w + 4)) refl refl
  where
    go : (a b : Bool) → ltb c w ≡ a → ltb c (w + 4) ≡ b → Lies lo w c
    go true b h k = let l = ltb-true c w h in lies_inside l (mark_of-inside lo w c l)
    go false true h k =
        let l = ltb-false c w h in
        let m = ltb-true c (w + 4) k in
        let e : c + 1 ≡ w + (c + 1 - w) = omega arith in
        let p : 0 < c + 1 - w = omega arith in
        let q : c + 1 - w ≤ 4 = omega arith in
        lies_above (c + 1 - w) e p q (mark-above lo w c (c + 1 - w) e p q)
    go false false h k =
        let l = ltb-false c (w + 4) k in
        let e : c + 1 ≡ w + 4 + (c + 1 - (w + 4)) = omega arith in
        let p : 0 < c + 1 - (w + 4) = omega arith in
        lies_below (c + 1 - (w + 4)) e p (mark-below lo w c (c + 1 - (w + 4)) e p)

-- ---- less
-- the answers of the nine cases
abbrev pub by_positions : (p q : Position) (c d : ℕ) → Bool
by_positions Below Below c d = ltb d c
by_positions Below Inside c d = true
by_positions Below Above c d = true
by_positions Inside Below c d = false
by_positions Inside Inside c d = ltb c d
by_positions Inside Above c d = true
by_positions Above Below c d = false
by_positions Above Inside c d = false
by_positions Above Above c d = ltb c d

-- of two codes on one side the greater has the greater rank
less_by : (m c d j k : ℕ) → c + 1 ≡ m + j → d + 1 ≡ m + k → ltb c d ≡ ltb j k
less_by m c d j k e f = same_test (ltb c d) (ltb j k)
    (λ t. lt→ltb j k (omega (arith, ltb→lt c d t))) (λ t. lt→ltb c d (omega (arith, ltb→lt j k t)))

pub cases : (w c d : ℕ) → by_positions (position_of (mark_of (pos 0) w c)) (position_of (mark_of (pos 0) w d)) c d ≡ less_of w c d
unfolding position_of less_of less_mark
cases w c d = go (lies (pos 0) w c) (lies (pos 0) w d)
  where
    from_zero : (e : ℕ) → e ≡ 0 + e
    from_zero e = omega arith

    go : Lies (pos 0) w c → Lies (pos 0) w d
        → by_positions (position_of (mark_of (pos 0) w c)) (position_of (mark_of (pos 0) w d)) c d
        ≡ less_mark (mark_of (pos 0) w c) (mark_of (pos 0) w d)
    go (lies_below j e p m) (lies_below k f q n) = rw (m, n) (less_by (w + 4) d c k j f e)
    go (lies_below j e p m) (lies_inside k n) = rw (m, n)
    go (lies_below j e p m) (lies_above k f q r n) = rw (m, n)
    go (lies_inside j m) (lies_below k f q n) = rw (m, n)
    go (lies_inside j m) (lies_inside k n) = rw (m, n) (ap₂ ltb (from_zero c) (from_zero d))
    go (lies_inside j m) (lies_above k f q r n) = rw (m, n)
    go (lies_above j e p o m) (lies_below k f q n) = rw (m, n)
    go (lies_above j e p o m) (lies_inside k n) = rw (m, n)
    go (lies_above j e p o m) (lies_above k f q r n) = rw (m, n) (less_by w c d j k e f)

-- of codes at positions p and q
pub case_answer : (w c d : ℕ) {p q : Position} → p ≡ position_of (mark_of (pos 0) w c) → q ≡ position_of (mark_of (pos 0) w d)
    → by_positions p q c d ≡ less_of w c d
case_answer w c d ep eq = rw (ep, eq) (cases w c d)

-- ---- numbers of the cases
-- where the cases are numbered, by three times the one position plus the other, each position from 0 to 2, there is no tenth: a number that is none
-- of those below n is at least n
abbrev pub NoneBelow : (n k : ℕ) → Type 0
NoneBelow zero k = Unit {0}
NoneBelow (suc n) k = NoneBelow n k × (k ≡ n → ⊥)

past : (n k : ℕ) → NoneBelow n k → n ≤ k
past zero k h = omega arith
past (suc n) k (h, e) = let g = past n k h in omega arith

pub no_case : {p q : ℕ} → p ≤ 2 → q ≤ 2 → NoneBelow 9 (3 * p + q) → ⊥
no_case {p} {q} h k n = omega (arith, past 9 (3 * p + q) n)
