-- The nine cases of `less_mark` are the order of the values that the spread puts for the two marks: of ranks below by the greater rank, of values
-- inside by themselves, of ranks above by the lesser rank, and of marks that lie differently by that alone.
use mathlib.Core.Path.{◌≡◌, refl, sym}
use Prim.Native.Nat.{ℕ, ◌<◌, ◌≤◌}
use lib.IntN.{ℤ, pos}
use lib.Signed.{lt_z}
use lib.Dec.{T, ltb, ltb→lt, lt→ltb}
use Rattle.model.specs.Pattern.{Mark, inside, above, below}
use Rattle.model.specs.Inner.Integers.{Inside}
use Rattle.model.specs.Inner.Marks.{less_mark}
use Rattle.model.proofs.Integers.{zarith, same_test}
use Rattle.model.proofs.Side.{place, above_placed, below_placed}

-- a mark as patterns have it: a value from lo to hi, or a rank, which counts from 1
abbrev pub SoundMark : (lo hi : ℤ) → Mark → Type 0
SoundMark lo hi (inside c) = Inside lo hi c
SoundMark lo hi (above k) = 1 ≤ k
SoundMark lo hi (below k) = 1 ≤ k

module _ {lo hi : ℤ} (z : Inside lo hi (pos 0)) where
  by_rank : (j k : ℕ) (m n : Mark) → (j < k → T (lt_z (place lo hi m) (place lo hi n))) → (T (lt_z (place lo hi m) (place lo hi n)) → j < k)
      → ltb j k ≡ lt_z (place lo hi m) (place lo hi n)
  by_rank j k m n f g = same_test (ltb j k) (lt_z (place lo hi m) (place lo hi n)) (λ t. f (ltb→lt j k t)) (λ t. lt→ltb j k (g t))

  pub less-place : (m n : Mark) → SoundMark lo hi m → SoundMark lo hi n → less_mark m n ≡ lt_z (place lo hi m) (place lo hi n)
  unfolding less_mark place
  less-place (below j) (below k) p q = by_rank k j (below j) (below k)
      (λ h. omega (zarith, below_placed z j, below_placed z k)) (λ h. omega (zarith, below_placed z j, below_placed z k))
  less-place (below j) (inside y) p q = sym (omega (zarith, below_placed z j))
  less-place (below j) (above k) p q = sym (omega (zarith, below_placed z j, above_placed z k))
  less-place (inside x) (below k) p q = sym (omega (zarith, below_placed z k))
  less-place (inside x) (inside y) p q = refl
  less-place (inside x) (above k) p q = sym (omega (zarith, above_placed z k))
  less-place (above j) (below k) p q = sym (omega (zarith, above_placed z j, below_placed z k))
  less-place (above j) (inside y) p q = sym (omega (zarith, above_placed z j))
  less-place (above j) (above k) p q = by_rank j k (above j) (above k)
      (λ h. omega (zarith, above_placed z j, above_placed z k)) (λ h. omega (zarith, above_placed z j, above_placed z k))
