-- Values inside take no part in a rank: without them every mark stays. So lists that keep the same values outside give the same marks.
use mathlib.Core.Path.{◌≡◌, refl, sym, ap, ◌∙◌, subst}
use mathlib.Core.Bool.{Bool, true, false, not, cond, ◌&&◌, ◌||◌}
use mathlib.Core.List.{List, [], ◌∷◌}
use Prim.Native.Nat.{suc}
use lib.IntN.{ℤ}
use lib.Signed.{lt_z}
use lib.Dec.{T, not_T}
use Rattle.model.specs.Pattern.{equal, among, different, mark}
use Rattle.model.proofs.Integers.{true_in, false_out, and_in, or_left, or_right}
use Rattle.model.proofs.Ranks.{equal_in}
use Rattle.outside.specs.Inner.Rows.{keep}

-- ---- dropping what a test fails
module _ (q : ℤ → Bool) where
  among-keep : (x : ℤ) → T (q x) → (v : List ℤ) → among x (keep q v) ≡ among x v
  unfolding among keep
  among-keep x h [] = refl
  among-keep x h (y ∷ v) = go (q y) refl (among-keep x h v)
    where
      go : (b : Bool) → q y ≡ b → among x (keep q v) ≡ among x v
          → among x (elim b [ true ↦ y ∷ keep q v | false ↦ keep q v ]) ≡ (equal x y || among x v)
      go true e ih = ap (λ b. equal x y || b) ih
      go false e ih = rw (false_out (equal x y) (not_T (equal x y) (λ s. subst T (ap q (equal_in x y s) ∙ e) h))) ih

  different-keep : (p : ℤ → Bool) → ((y : ℤ) → T (p y) → T (q y)) → (v : List ℤ) → different p (keep q v) ≡ different p v
  unfolding different keep
  different-keep p f [] = refl
  different-keep p f (y ∷ v) = go (q y) (p y) refl refl (different-keep p f v)
    where
      go : (b c : Bool) → q y ≡ b → p y ≡ c → different p (keep q v) ≡ different p v
          → different p (elim b [ true ↦ y ∷ keep q v | false ↦ keep q v ]) ≡ cond (c && not (among y v)) (suc (different p v)) (different p v)
      go true true e g ih = rw (g, among-keep y (true_in (q y) e) v, ih)
      go true false e g ih = rw (g, ih)
      go false true e g ih = absurd (subst T e (f y (true_in (p y) g)))
      go false false e g ih = ih

-- ---- patterns
abbrev pub is_out : (lo hi : ℤ) → ℤ → Bool
is_out lo hi x = lt_z hi x || lt_z x lo

module _ (lo hi : ℤ) where
  pub mark-keep : (v : List ℤ) (x : ℤ) → mark lo hi (keep (is_out lo hi) v) x ≡ mark lo hi v x
  unfolding mark
  mark-keep v x =
      rw (
        different-keep (is_out lo hi) (λ y. lt_z hi y && not (lt_z x y))
            (λ y t. or_left (lt_z hi y) (lt_z y lo) (and_in (lt_z hi y) (not (lt_z x y)) t).0) v,
        different-keep (is_out lo hi) (λ y. lt_z y lo && not (lt_z y x))
            (λ y t. or_right (lt_z hi y) (lt_z y lo) (and_in (lt_z y lo) (not (lt_z y x)) t).0) v,
      )

  pub mark-kept : (v w : List ℤ) → keep (is_out lo hi) v ≡ keep (is_out lo hi) w → (x : ℤ) → mark lo hi v x ≡ mark lo hi w x
  mark-kept v w e x = sym (mark-keep v x) ∙ ap (λ t. mark lo hi t x) e ∙ mark-keep w x
