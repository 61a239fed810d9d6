-- The pattern of values is what their codes say, and the spread of a pattern is what its codes are tried by: so codes are compared, in the nine cases of
-- their marks, as these values are. A code is told by its mark, and codes that were made of values are made again of the values by which they are tried.
use mathlib.Core.Path.{◌≡◌, refl, sym, ap, ap₂, ◌∙◌, subst}
use mathlib.Core.Bool.{Bool, true, false, not, cond, ◌&&◌, ◌||◌}
use mathlib.Core.List.{List, [], ◌∷◌, map}
use mathlib.Core.Logic.{◌⊎◌, inl, inr}
use Prim.Native.Nat.{ℕ, suc, ◌+◌, ◌*◌, ◌-◌, ◌<◌, ◌≤◌}
use native.Mathlib.Omega.{arith}
use lib.IntN.{ℤ, pos, ◌+ℤ◌, ◌-ℤ◌, neg_ℤ}
use lib.Signed.{lt_z}
use lib.ListN.{length}
use lib.Dec.{T, leb-suc-suc, leb, ltb, eqb, le→leb, eqb→eq}
use borrow.Author.Tests.{ltb-true, ltb-false, eq-eqb}
use Rattle.model.specs.Pattern.{Mark, above, inside, below, among, different, rank, mark, pattern}
use Rattle.model.proofs.Integers.{zarith, add_pos, sub_pos, true_in, true_out, and_out, or_in, or_right}
use Rattle.model.proofs.Side.{place, spread}
use Rattle.model.proofs.Ranks.{pattern_spread}
use Rattle.model.proofs.NineCases.{SoundMark, less-place}
use Rattle.model.specs.Inner.Integers.{up}
use Rattle.model.specs.Inner.Marks.{less_mark}
use Rattle.pattern_word.specs.Inner.Pattern.{Width, mark_of, low, high, within, member, different_within, lane_code, codes_of, value_of, values_of, less_of}
use Rattle.pattern_word.proofs.Span.{real-is, not_lt, lt_le, equal_test, lt_real, above-real, below-real, span-from-zero}
use Rattle.constants.proofs.Offsets.{less-is}
use Rattle.pattern_word.proofs.Ranks.{among-length, codes_below, length_codes, length-values, value-inside, value-above, value-below}
use Rattle.pattern_word.proofs.Cases.{mark_of-inside, mark-above, mark-below, Lies, lies_inside, lies_above, lies_below, lies}
use Rattle.pattern_word.specs.Inner.Digits.{Below}
use Rattle.pattern_word.specs.Inner.Span.{Span, real}

-- ---- lists
map-map : {A B C : Type 0} (f : B → C) (g : A → B) (l : List A) → map f (map g l) ≡ map (λ x. f (g x)) l
map-map f g [] = refl
map-map f g (x ∷ l) = ap (λ t. f (g x) ∷ t) (map-map f g l)

map_members : {B : Type 0} (f g : ℕ → B) (l : List ℕ) → ((x : ℕ) → T (member x l) → f x ≡ g x) → map f l ≡ map g l
unfolding member
map_members f g [] h = refl
map_members f g (x ∷ l) h = ap₂ ◌∷◌ (h x (rw (eq-eqb x x refl) tt)) (map_members f g l (λ y t. h y (or_right (eqb y x) (member y l) t)))

-- a member from p to q is counted
among-some : (p q x : ℕ) (v : List ℕ) → T (within p q x) → T (member x v) → 0 < different_within p q v
unfolding different_within member
among-some p q x [] h m = absurd m
among-some p q x (y ∷ v) h m = go (member x v) refl (λ k. among-some p q x v h k)
  where
    Goal : ℕ → Type 0
    Goal z = 0 < cond (within p q z && not (member z v)) (suc (different_within p q v)) (different_within p q v)

    keep : (b : Bool) → 0 < different_within p q v → 0 < cond b (suc (different_within p q v)) (different_within p q v)
    keep true k = omega arith
    keep false k = k

    here : T (eqb x y) ⊎ T (member x v) → member x v ≡ false → Goal y
    here (inl t) e = subst Goal (eqb→eq x y t) (rw (true_out (within p q x) h, e) (omega arith))
    here (inr t) e = absurd (subst T e t)

    go : (b : Bool) → member x v ≡ b → (T (member x v) → 0 < different_within p q v) → Goal y
    go true e ih = keep (within p q y && not (member y v)) (ih (true_in (member x v) e))
    go false e ih = here (or_in (eqb x y) (member x v) m) e

and_swap : (a b : Bool) → a && b ≡ b && a
and_swap true true = refl
and_swap true false = refl
and_swap false true = refl
and_swap false false = refl

-- ---- counts of values are counts of whole numbers
member-real : (lo : ℤ) (x : ℕ) (l : List ℕ) → among (real lo x) (map (real lo) l) ≡ member x l
unfolding among member
member-real lo x [] = refl
member-real lo x (y ∷ l) = ap₂ ◌||◌ (ap₂ (λ (a b : Bool). not a && not b) (lt_real lo x y) (lt_real lo y x) ∙ equal_test x y) (member-real lo x l)

different-real : (lo : ℤ) (p : ℤ → Bool) (a b : ℕ) → ((x : ℕ) → p (real lo x) ≡ within a b x) → (v : List ℕ)
    → different p (map (real lo) v) ≡ different_within a b v
unfolding different different_within
different-real lo p a b h [] = refl
different-real lo p a b h (x ∷ v) = rw (h x, member-real lo x v, different-real lo p a b h v)

-- ---- the mark of a value is that of its code
module _ {lo hi : ℤ} {w : ℕ} (s : Span lo hi w) where
  rank-above : (v : List ℕ) (x : ℕ) → rank lt_z hi (map (real lo) v) (real lo x) ≡ different_within (suc (high w)) x v
  rank-above v x = different-real lo (λ u. lt_z hi u && not (lt_z (real lo x) u)) (suc (high w)) x
      (λ y. ap₂ ◌&&◌ (above-real s y ∙ lt_le (high w) y) (ap not (lt_real lo x y) ∙ not_lt x y)) v

  rank_below : (v : List ℕ) (x : ℕ) → rank (λ y z. lt_z z y) lo (map (real lo) v) (real lo x) ≡ different_within x (low - 1) v
  rank_below v x = different-real lo (λ u. lt_z u lo && not (lt_z u (real lo x))) x (low - 1)
      (λ y. ap₂ ◌&&◌ (below-real s y ∙ edge y) (ap not (lt_real lo y x) ∙ not_lt y x) ∙ and_swap (leb y 15) (leb x y)) v
    where
      edge : (y : ℕ) → ltb y 16 ≡ leb y 15
      edge y = lt_le y 16 ∙ leb-suc-suc y 15

  mark_code : (v : List ℕ) (x : ℕ) → length v ≤ 4 → T (member x v) → mark lo hi (map (real lo) v) (real lo x) ≡ mark_of lo w (lane_code w v x)
  unfolding mark lane_code
  mark_code v x few m = rw (above-real s x, below-real s x) (go (ltb (high w) x) (ltb x low) refl refl)
    where
      go : (a b : Bool) → ltb (high w) x ≡ a → ltb x low ≡ b
          → cond a (above (rank lt_z hi (map (real lo) v) (real lo x)))
          (cond b (below (rank (λ y z. lt_z z y) lo (map (real lo) v) (real lo x))) (inside (real lo x)))
          ≡ mark_of lo w (cond a (w + different_within (suc (high w)) x v - 1) (cond b (w + 3 + different_within x (low - 1) v) (x - low)))
      go true b h k =
          let n = among-length (suc (high w)) x v in
          let g = among-some (suc (high w)) x x v
          (and_out (leb (suc (high w)) x) (leb x x) (le→leb (suc (high w)) x (omega (arith, ltb-true))) (le→leb x x (omega arith))) m in
          ap above (rank-above v x)
          ∙ sym (mark-above lo w (w + different_within (suc (high w)) x v - 1) (different_within (suc (high w)) x v) (omega arith) g (omega arith))
      go false true h k =
          let g = among-some x 15 x v (and_out (leb x x) (leb x 15) (le→leb x x (omega arith)) (le→leb x 15 (omega (arith, ltb-true)))) m in
          ap below (rank_below v x) ∙ sym (mark-below lo w (w + 3 + different_within x 15 v) (different_within x 15 v) (omega arith) g)
      go false false h k =
          ap inside (omega (zarith, real-is lo x, add_pos lo (x - low), ltb-false x 16 k))
          ∙ sym (mark_of-inside lo w (x - low) (omega (arith, ltb-false)))

  pub pattern_codes : (v : List ℕ) → length v ≤ 4 → pattern lo hi (map (real lo) v) ≡ map (mark_of lo w) (codes_of w v)
  unfolding pattern codes_of
  pattern_codes v few =
      map-map (mark lo hi (map (real lo) v)) (real lo) v
      ∙ map_members (λ x. mark lo hi (map (real lo) v) (real lo x)) (λ x. mark_of lo w (lane_code w v x)) v (λ x m. mark_code v x few m)
      ∙ sym (map-map (mark_of lo w) (lane_code w v) v)

  -- ---- the value by which a code is tried
  place-value : (c : ℕ) → c < w + 8 → place lo hi (mark_of lo w c) ≡ real lo (value_of w c)
  unfolding place
  place-value c few = go (lies lo w c)
    where
      go : Lies lo w c → place lo hi (mark_of lo w c) ≡ real lo (value_of w c)
      go (lies_inside h m) =
          let r : lo +ℤ pos c ≡ real lo (low + c) = omega (zarith, add_pos lo c, real-is lo (low + c)) in
          rw m (r ∙ ap (real lo) (value-inside w c h))
      go (lies_above n e p q m) =
          let x : ℕ = high w + 2 * (c + 1 - w) in
          let r : hi +ℤ pos (2 * n) ≡ real lo x = omega (zarith, add_pos hi (2 * n), real-is lo x, s.edge) in
          rw m (r ∙ ap (real lo) (value-above w c (omega arith) (omega arith)))
      go (lies_below n e p m) =
          let x : ℕ = low - 2 * (c + 1 - (w + 4)) in
          let r : lo +ℤ neg_ℤ (pos (2 * n)) ≡ real lo x = omega (zarith, sub_pos lo (2 * n), real-is lo x) in
          rw m (r ∙ ap (real lo) (value-below w c (omega arith)))

  pub spread_values : (c : List ℕ) → Below (w + 8) c → spread lo hi (map (mark_of lo w) c) ≡ map (real lo) (values_of w c)
  unfolding spread values_of
  spread_values [] h = refl
  spread_values (x ∷ c) h = ap₂ ◌∷◌ (place-value x (h 0)) (spread_values c (λ i. h (suc i)))

  -- ---- the nine cases of the marks compare the values tried
  mark_of-sound : (c : ℕ) → SoundMark lo hi (mark_of lo w c)
  mark_of-sound c = go (lies lo w c)
    where
      go : Lies lo w c → SoundMark lo hi (mark_of lo w c)
      go (lies_inside h m) =
          subst (SoundMark lo hi) (sym m) (record { low = omega (zarith, add_pos lo c); high = omega (zarith, add_pos lo c, s.edge) })
      go (lies_above n e p q m) = subst (SoundMark lo hi) (sym m) p
      go (lies_below n e p m) = subst (SoundMark lo hi) (sym m) p

  marks-values : (c d : ℕ) → c < w + 8 → d < w + 8 → less_mark (mark_of lo w c) (mark_of lo w d) ≡ ltb (value_of w c) (value_of w d)
  marks-values c d h k =
      less-place s.zero (mark_of lo w c) (mark_of lo w d) (mark_of-sound c) (mark_of-sound d)
      ∙ ap₂ lt_z (place-value c h) (place-value d k)
      ∙ lt_real lo (value_of w c) (value_of w d)

-- codes are compared as the values tried are; and C1 may be taken as 0
pub less-values : (w c d : ℕ) → Width w → c < w + 8 → d < w + 8 → less_of w c d ≡ ltb (value_of w c) (value_of w d)
unfolding less_of
less-values w c d h = marks-values (span-from-zero w h) c d

pub less-any-lo : {lo hi : ℤ} {w : ℕ} → Span lo hi w → (c d : ℕ) → c < w + 8 → d < w + 8 → less_of w c d ≡ less_mark (mark_of lo w c) (mark_of lo w d)
less-any-lo {w = w} s c d h k = less-values w c d s.width h k ∙ sym (marks-values s c d h k)

-- ---- a mark tells its code
module _ (lo : ℤ) (w : ℕ) where
  code_back : Mark → ℕ
  code_back (above n) = w + n - 1
  code_back (inside z) = up (z -ℤ lo)
  code_back (below n) = w + 3 + n

  back-mark : (c : ℕ) → code_back (mark_of lo w c) ≡ c
  unfolding code_back
  back-mark c = go (lies lo w c)
    where
      cancel : (lo +ℤ pos c) -ℤ lo ≡ pos c
      cancel = omega (zarith, less-is (lo +ℤ pos c) lo, add_pos lo c)

      go : Lies lo w c → code_back (mark_of lo w c) ≡ c
      go (lies_inside h m) = rw m (ap up cancel)
      go (lies_above n e p q m) = rw m (omega arith)
      go (lies_below n e p m) = rw m (omega arith)

  pub marks_tell : (c d : List ℕ) → map (mark_of lo w) c ≡ map (mark_of lo w) d → c ≡ d
  marks_tell c d e = sym (back c) ∙ ap (map code_back) e ∙ back d
    where
      back : (l : List ℕ) → map code_back (map (mark_of lo w) l) ≡ l
      back [] = refl
      back (x ∷ l) = ap₂ ◌∷◌ (back-mark x) (back l)

-- ---- codes of values, spread out, are codes again
pub codes_again : (w : ℕ) → Width w → (v : List ℕ) → length v ≤ 4 → codes_of w (values_of w (codes_of w v)) ≡ codes_of w v
codes_again w h v few =
    let s = span-from-zero w h in
    let hi = pos (w - 1) in
    marks_tell (pos 0) w (codes_of w (values_of w (codes_of w v))) (codes_of w v)
    (sym (pattern_codes s (values_of w (codes_of w v)) (omega (arith, length-values w (codes_of w v), length_codes w v)))
    ∙ ap (pattern (pos 0) hi) (sym (spread_values s (codes_of w v) (codes_below w v few)) ∙ ap (spread (pos 0) hi) (sym (pattern_codes s v few)))
    ∙ pattern_spread s.zero (map (real (pos 0)) v)
    ∙ pattern_codes s v few)
