-- Valuations that no comparison tells apart, neither of their values with each other nor with a number from lo to hi.
-- `Fits v x w y` says that x is to v what y is to w: then x and y can be stored in the same lane.
use mathlib.Core.Path.{◌≡◌, refl, sym, ap₂, ◌∙◌}
use mathlib.Core.List.{List, [], ◌∷◌, map}
use Prim.Native.Nat.{ℕ, zero, suc}
use native.Mathlib.Omega.{arith}
use lib.IntN.{ℤ, pos}
use lib.Signed.{lt_z}
use lib.ListN.{length, set, length-set, length-map}
use Rattle.model.proofs.Integers.{zarith}
use Rattle.model.proofs.View.{Known}
use Rattle.model.proofs.Faithful.{Faithful, term-map}
use Rattle.model.specs.Inner.Integers.{Inside}
use Rattle.model.specs.Inner.View.{Term, held, literal, term}

pub record Alike (lo hi : ℤ) (v w : List ℤ) : Type 0 where
  pub size : length v ≡ length w
  pub order : (s t : Term) → Known lo hi s → Known lo hi t → lt_z (term v s) (term v t) ≡ lt_z (term w s) (term w t)

pub record Fits (lo hi : ℤ) (v : List ℤ) (x : ℤ) (w : List ℤ) (y : ℤ) : Type 0 where
  pub before : (t : Term) → Known lo hi t → lt_z x (term v t) ≡ lt_z y (term w t)
  pub behind : (t : Term) → Known lo hi t → lt_z (term v t) x ≡ lt_z (term w t) y

-- two lists after a store into one lane, seen at one term: both as before, or both new
data Stored (v w : List ℤ) (n : ℕ) (x y : ℤ) (t : Term) : Type 0 where
  kept : term (set v n x) t ≡ term v t → term (set w n y) t ≡ term w t → Stored v w n x y t
  new : term (set v n x) t ≡ x → term (set w n y) t ≡ y → Stored v w n x y t

stored_at : (v w : List ℤ) (n : ℕ) (x y : ℤ) (i : ℕ) → length v ≡ length w → Stored v w n x y (held i)
stored_at [] [] n x y i h = kept refl refl
stored_at [] (b ∷ w) n x y i h = absurd (omega arith)
stored_at (a ∷ v) [] n x y i h = absurd (omega arith)
stored_at (a ∷ v) (b ∷ w) zero x y zero h = new refl refl
stored_at (a ∷ v) (b ∷ w) zero x y (suc i) h = kept refl refl
stored_at (a ∷ v) (b ∷ w) (suc n) x y zero h = kept refl refl
stored_at (a ∷ v) (b ∷ w) (suc n) x y (suc i) h = later (stored_at v w n x y i (omega arith))
  where
    later : Stored v w n x y (held i) → Stored (a ∷ v) (b ∷ w) (suc n) x y (held (suc i))
    later (kept p q) = kept p q
    later (new p q) = new p q

stored : (v w : List ℤ) (n : ℕ) (x y : ℤ) (t : Term) → length v ≡ length w → Stored v w n x y t
stored v w n x y (held i) h = stored_at v w n x y i h
stored v w n x y (literal c) h = kept refl refl

-- the same comparison, between equal numbers
via : {a a' b b' c c' d d' : ℤ} → a ≡ a' → b ≡ b' → c ≡ c' → d ≡ d' → lt_z a' b' ≡ lt_z c' d' → lt_z a b ≡ lt_z c d
via p q r s h = ap₂ lt_z p q ∙ h ∙ sym (ap₂ lt_z r s)

irreflexive : (x y : ℤ) → lt_z x x ≡ lt_z y y
irreflexive x y = let p : lt_z x x ≡ mathlib.Core.Bool.false = omega zarith in let q : lt_z y y ≡ mathlib.Core.Bool.false = omega zarith in p ∙ sym q

module _ {lo hi : ℤ} where
  pub alike_sym : {v w : List ℤ} → Alike lo hi v w → Alike lo hi w v
  alike_sym k = record { size = sym k.size; order = λ s t h h'. sym (k.order s t h h') }

  pub alike_trans : {u v w : List ℤ} → Alike lo hi u v → Alike lo hi v w → Alike lo hi u w
  alike_trans j k = record { size = j.size ∙ k.size; order = λ s t h h'. j.order s t h h' ∙ k.order s t h h' }

  pub alike-map : (f : ℤ → ℤ) → Inside lo hi (pos 0) → Faithful lo hi f → (v : List ℤ) → Alike lo hi v (map f v)
  alike-map f z k v = record {
    size = sym (length-map v f);
    order = λ s t h h'. sym (ap₂ lt_z (term-map lo hi f z k v s h) (term-map lo hi f z k v t h') ∙ k.keeps (term v s) (term v t));
  }

  pub alike_set : {v w : List ℤ} (n : ℕ) {x y : ℤ} → Alike lo hi v w → Fits lo hi v x w y → Alike lo hi (set v n x) (set w n y)
  alike_set {v} {w} n {x} {y} k f = record {
    size = length-set v n x ∙ k.size ∙ sym (length-set w n y);
    order = λ s t h h'. both s t h h' (stored v w n x y s k.size) (stored v w n x y t k.size);
  }
    where
      both : (s t : Term) → Known lo hi s → Known lo hi t → Stored v w n x y s → Stored v w n x y t
          → lt_z (term (set v n x) s) (term (set v n x) t) ≡ lt_z (term (set w n y) s) (term (set w n y) t)
      both s t h h' (kept p q) (kept p' q') = via p p' q q' (k.order s t h h')
      both s t h h' (kept p q) (new p' q') = via p p' q q' (f.behind s h)
      both s t h h' (new p q) (kept p' q') = via p p' q q' (f.before t h')
      both s t h h' (new p q) (new p' q') = via p p' q q' (irreflexive x y)

  -- what a term gives in alike valuations fits
  pub fits_term : {v w : List ℤ} (t : Term) → Known lo hi t → Alike lo hi v w → Fits lo hi v (term v t) w (term w t)
  fits_term t h k = record { before = λ s j. k.order t s h j; behind = λ s j. k.order s t j h }
