-- The nine cases of `less_mark` compare values: those that the spread puts for the two marks (`less-place`), and so those that have the marks, of two
-- variables or of a variable and a constant, whatever the variables hold, since the spread keeps the order (`marks_compared`).
use mathlib.Core.Path.{◌≡◌, sym, ◌∙◌, subst}
use mathlib.Core.Bool.{Bool, true, false}
use mathlib.Core.List.{List}
use Prim.Native.Nat.{ℕ, ◌≤◌}
use lib.IntN.{ℤ, pos}
use lib.Signed.{lt_z}
use Rattle.model.specs.Pattern.{mark}
use Rattle.model.specs.Inner.Integers.{Inside}
use Rattle.model.specs.Inner.Marks.{less_mark}
use Rattle.model.specs.Inner.View.{Term, term}
use Rattle.model.proofs.View.{Known}
use Rattle.model.proofs.Side.{mark-inside, side, Zone, beyond, within, zone}
pub use Rattle.model.proofs.PlacedMarks.{SoundMark, less-place}
use Rattle.model.proofs.Ranks.{among-term, rank_pos, moved_order}

module _ {lo hi : ℤ} (z : Inside lo hi (pos 0)) where
  -- the mark that a pattern has for a term's value
  mark-sound : (v : List ℤ) (t : Term) → Known lo hi t → SoundMark lo hi (mark lo hi v (term v t))
  mark-sound v t k = go (zone z (term v t))
    where
      ranked : (b : Bool) (n : ℕ) → 1 ≤ n → SoundMark lo hi ((side z b).tag n)
      ranked true n h = h
      ranked false n h = h

      go : Zone z (term v t) → SoundMark lo hi (mark lo hi v (term v t))
      go (within h) = subst (SoundMark lo hi) (sym (mark-inside lo hi v (term v t) h)) h
      go (beyond b h) = subst (SoundMark lo hi) (sym ((side z b).marked v (term v t) h))
          (ranked b _ (rank_pos z (side z b) v (term v t) h (among-term z (side z b) v t k h)))

  pub marks_compared : (v : List ℤ) (s t : Term) → Known lo hi s → Known lo hi t
      → less_mark (mark lo hi v (term v s)) (mark lo hi v (term v t)) ≡ lt_z (term v s) (term v t)
  marks_compared v s t j k =
      less-place z (mark lo hi v (term v s)) (mark lo hi v (term v t)) (mark-sound v s j) (mark-sound v t k) ∙ moved_order z v s t j k
