-- A read of any whole number does to a valuation what a read of some number near lo..hi does to its spread: finitely many trial records are enough.
-- All that is used of the spread is that it is *spaced*, its values beyond an edge lying at even distances: between two neighbours there is room.
use mathlib.Core.Path.{◌≡◌, sym, ap, ◌∙◌}
use mathlib.Core.List.{List, map}
use Prim.Native.Nat.{ℕ, suc, ◌*◌}
use lib.IntN.{ℤ, pos}
use lib.ListN.{length, set}
use lib.Seq.{set-set}
use Rattle.model.specs.Pattern.{mark, pattern}
use Rattle.model.specs.Sample.{Near}
use Rattle.model.proofs.Lists.{all_of, all_set, all_map}
use Rattle.model.proofs.Alike.{Alike, alike_set, fits_term}
use Rattle.model.proofs.Side.{place, spread, spread_value, inside-near, side, Zone, beyond, within, zone}
use Rattle.model.proofs.Ranks.{pattern-alike, alike-pattern}
pub use Rattle.model.proofs.EvenDistances.{Even, Spaced, Candidate}
use Rattle.model.proofs.EvenDistances.{candidate_beyond, even_moved, even_inside}
use Rattle.model.specs.Inner.Integers.{Inside}
use Rattle.model.specs.Inner.View.{literal}

module _ {lo hi : ℤ} (z : Inside lo hi (pos 0)) where
  pub spaced_spread : (v : List ℤ) → Spaced z (length v) (spread lo hi (pattern lo hi v))
  unfolding spread pattern
  spaced_spread v b =
      let P : ℤ → Type 0 = Even (side z b) (length v) in
      let each = all_of (λ x. P (spread_value lo hi v x)) (even_moved z (side z b) v) v in
      let marks = all_map (λ x. P (spread_value lo hi v x)) (λ m. P (place lo hi m)) (mark lo hi v) (λ x h. h) v each in
      all_map (λ m. P (place lo hi m)) P (place lo hi) (λ m h. h) (map (mark lo hi v) v) marks

  pub spaced_set : (n : ℕ) (w : List ℤ) (i : ℕ) (c : ℤ) → Inside lo hi c → Spaced z n w → Spaced z n (set w i c)
  spaced_set n w i c k sp b = all_set (Even (side z b) n) w i c (sp b) (even_inside z (side z b) n c k)

  pub candidate : (n : ℕ) {v w : List ℤ} → Alike lo hi v w → Spaced z n w → (x : ℤ) → Candidate lo hi n v x w
  candidate n {v} {w} k sp x = go (zone z x)
    where
      go : Zone z x → Candidate lo hi n v x w
      go (beyond b h) = candidate_beyond z (side z b) n k (sp b) x h
      go (within h) = (x, inside-near (suc (2 * n)) h, fits_term (literal x) h k)

  -- valuations that are alike once lane i holds c lead, by a read into lane i, to the same patterns
  pub fan : (v w : List ℤ) (i n : ℕ) (c : ℤ) → pattern lo hi (set v i c) ≡ pattern lo hi (set w i c) → Spaced z n (set w i c) → (x : ℤ)
      → (y : ℤ) × Near lo hi (suc (2 * n)) y × (pattern lo hi (set v i x) ≡ pattern lo hi (set w i y))
  fan v w i n c e sp x =
      let k = alike-pattern z e in
      let (y, near, fits) = candidate n k sp x in
      (y, near, ap (pattern lo hi) (sym (set-set v i c x)) ∙ pattern-alike z (alike_set i k fits) ∙ ap (pattern lo hi) (set-set w i c y))
