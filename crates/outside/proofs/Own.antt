-- The signed ranks of a pattern are their own: taken as values where C1 and C2 are 0, they have themselves for ranks. The spread of a
-- pattern puts them beyond C1 and C2 without changing their order, and it has the pattern that it is a spread of.
use mathlib.Core.Path.{◌≡◌, refl, sym, ap, ap₂, ◌∙◌}
use mathlib.Core.Bool.{Bool, true, false, not, cond, ◌&&◌}
use mathlib.Core.List.{List, [], ◌∷◌, map}
use mathlib.Core.Logic.{◌⊎◌}
use Prim.Native.Nat.{ℕ, zero, suc, ◌≤◌}
use native.Mathlib.Omega.{arith}
use lib.IntN.{ℤ, pos, negsuc}
use lib.Signed.{lt_z}
use lib.Dec.{T}
use Rattle.graph.specs.Lists.{In}
use Rattle.model.specs.Pattern.{Mark, inside, above, below, among, different, rank, mark, pattern}
use Rattle.model.specs.Inner.Integers.{Inside}
use Rattle.model.specs.Inner.Lists.{All}
use Rattle.model.proofs.Integers.{zarith, same_test, false_out}
use Rattle.model.proofs.Lists.{all_map}
use Rattle.model.proofs.Side.{place, spread, mark-inside, above-mark, below-mark, above_placed, below_placed, upper, lower, Zone, beyond, within, zone}
use Rattle.model.proofs.Ranks.{rank_pos, pattern_spread}
use Rattle.outside.specs.Inner.Rows.{keep}
use Rattle.outside.specs.Outside.{signed_rank, ranks_of}
use Rattle.outside.proofs.Rows.{all-each, keep_skips, keep_beside}
use Rattle.outside.proofs.Listed.{in_among}
use Rattle.outside.proofs.Kept.{is_out, mark-kept}

-- above hi or below lo
abbrev pub Out : (lo hi : ℤ) → ℤ → Type 0
Out lo hi x = T (lt_z hi x) ⊎ T (lt_z x lo)

-- where the spread of a pattern puts a signed rank
abbrev pub rank_place : (lo hi : ℤ) → ℤ → ℤ
rank_place lo hi (pos zero) = pos 0
rank_place lo hi (pos (suc k)) = place lo hi (above (suc k))
rank_place lo hi (negsuc k) = place lo hi (below (suc k))

-- a mark that a pattern can hold: a number inside, or a rank from 1 on
abbrev pub Possible : (lo hi : ℤ) → Mark → Type 0
Possible lo hi (inside c) = Inside lo hi c
Possible lo hi (above zero) = ⊥
Possible lo hi (above (suc k)) = Unit {0}
Possible lo hi (below zero) = ⊥
Possible lo hi (below (suc k)) = Unit {0}

-- two tests that pass together are the same test
both : {a b : Bool} → (T a → T b) × (T b → T a) → a ≡ b
both {a} {b} (f, g) = same_test a b f g

module _ {lo hi : ℤ} (z : Inside lo hi (pos 0)) where
  pub rank-place-above : (x : ℤ) → lt_z hi (rank_place lo hi x) ≡ lt_z (pos 0) x
  rank-place-above (pos zero) = both (omega zarith)
  rank-place-above (pos (suc k)) = both (omega (zarith, above_placed z (suc k)))
  rank-place-above (negsuc k) = both (omega (zarith, below_placed z (suc k)))

  pub rank-place-below : (x : ℤ) → lt_z (rank_place lo hi x) lo ≡ lt_z x (pos 0)
  rank-place-below (pos zero) = both (omega zarith)
  rank-place-below (pos (suc k)) = both (omega (zarith, above_placed z (suc k)))
  rank-place-below (negsuc k) = both (omega (zarith, below_placed z (suc k)))

  rank-place_order : (x y : ℤ) → lt_z (rank_place lo hi x) (rank_place lo hi y) ≡ lt_z x y
  rank-place_order (pos zero) (pos zero) = refl
  rank-place_order (pos zero) (pos (suc k)) = both (omega (zarith, above_placed z (suc k)))
  rank-place_order (pos zero) (negsuc k) = both (omega (zarith, below_placed z (suc k)))
  rank-place_order (pos (suc j)) (pos zero) = both (omega (zarith, above_placed z (suc j)))
  rank-place_order (pos (suc j)) (pos (suc k)) = both (omega (zarith, above_placed z (suc j), above_placed z (suc k)))
  rank-place_order (pos (suc j)) (negsuc k) = both (omega (zarith, above_placed z (suc j), below_placed z (suc k)))
  rank-place_order (negsuc j) (pos zero) = both (omega (zarith, below_placed z (suc j)))
  rank-place_order (negsuc j) (pos (suc k)) = both (omega (zarith, below_placed z (suc j), above_placed z (suc k)))
  rank-place_order (negsuc j) (negsuc k) = both (omega (zarith, below_placed z (suc j), below_placed z (suc k)))

  among-places : (x : ℤ) (v : List ℤ) → among (rank_place lo hi x) (map (rank_place lo hi) v) ≡ among x v
  unfolding among
  among-places x [] = refl
  among-places x (y ∷ v) = rw (rank-place_order x y, rank-place_order y x, among-places x v)

  different-places : (p q : ℤ → Bool) → ((y : ℤ) → p (rank_place lo hi y) ≡ q y) → (v : List ℤ) → different p (map (rank_place lo hi) v) ≡ different q v
  unfolding different
  different-places p q same [] = refl
  different-places p q same (x ∷ v) = rw (same x, among-places x v, different-places p q same v)

  mark-places : (v : List ℤ) (x : ℤ) → signed_rank (mark lo hi (map (rank_place lo hi) v) (rank_place lo hi x)) ≡ signed_rank (mark (pos 0) (pos 0) v x)
  unfolding mark
  mark-places v x =
      rw (
        rank-place-above x,
        rank-place-below x,
        different-places (λ y. lt_z hi y && not (lt_z (rank_place lo hi x) y)) (λ y. lt_z (pos 0) y && not (lt_z x y)) (λ y. rw (rank-place-above y, rank-place_order x y)) v,
        different-places (λ y. lt_z y lo && not (lt_z y (rank_place lo hi x))) (λ y. lt_z y (pos 0) && not (lt_z y x)) (λ y. rw (rank-place-below y, rank-place_order y x)) v,
      )
      (go (lt_z (pos 0) x) (lt_z x (pos 0)))
    where
      tagged : (a b : Bool) → ℤ → Mark
      tagged a b y = cond a (above (rank lt_z (pos 0) v x)) (cond b (below (rank (λ y u. lt_z u y) (pos 0) v x)) (inside y))

      -- what is inside does not show
      go : (a b : Bool) → signed_rank (tagged a b (rank_place lo hi x)) ≡ signed_rank (tagged a b x)
      go true b = refl
      go false true = refl
      go false false = refl

  put-marks : (v l : List ℤ) → map signed_rank (map (mark lo hi (map (rank_place lo hi) v)) (map (rank_place lo hi) l)) ≡ map signed_rank (map (mark (pos 0) (pos 0) v) l)
  put-marks v [] = refl
  put-marks v (x ∷ l) = ap₂ ◌∷◌ (mark-places v x) (put-marks v l)

  pub ranks_of-places : (r : List ℤ) → map signed_rank (pattern lo hi (map (rank_place lo hi) r)) ≡ ranks_of r
  unfolding ranks_of pattern
  ranks_of-places r = put-marks r r

  -- ---- patterns and their spreads
  pub all-marks : (P : Mark → Type 0) (v : List ℤ) → ((x : ℤ) → In x v → P (mark lo hi v x)) → All P (pattern lo hi v)
  unfolding pattern
  all-marks P v f = all_map (λ x. In x v) P (mark lo hi v) f v (all-each (λ x. In x v) v (λ x i. i))

  mark_possible : (v : List ℤ) (x : ℤ) → In x v → Possible lo hi (mark lo hi v x)
  mark_possible v x i = go (zone z x)
    where
      ranked : (k : ℕ) → 1 ≤ k → Possible lo hi (above k) × Possible lo hi (below k)
      ranked zero h = absurd (omega arith)
      ranked (suc k) h = (tt, tt)

      go : Zone z x → Possible lo hi (mark lo hi v x)
      go (beyond true h) = rw (above-mark z v x h) (ranked (rank lt_z hi v x) (rank_pos z (upper z) v x h (in_among x v i))).0
      go (beyond false h) =
          rw (below-mark z v x h)
          (ranked (rank (λ y u. lt_z u y) lo v x) (rank_pos z (lower z) v x h (in_among x v i))).1
      go (within h) = rw (mark-inside lo hi v x h) h

  pub pattern_possible : (v : List ℤ) → All (Possible lo hi) (pattern lo hi v)
  pattern_possible v = all-marks (Possible lo hi) v (mark_possible v)

  not_out : (x : ℤ) → Inside lo hi x → is_out lo hi x ≡ false
  not_out x h = rw (false_out (lt_z hi x) (omega zarith), false_out (lt_z x lo) (omega zarith))

  -- the spread puts marks where their signed ranks are put, but for numbers inside
  places-kept : (m : List Mark) → All (Possible lo hi) m
      → keep (is_out lo hi) (map (place lo hi) m) ≡ keep (is_out lo hi) (map (rank_place lo hi) (map signed_rank m))
  unfolding place
  places-kept [] h = refl
  places-kept (inside c ∷ m) (h, hs) =
      keep_skips (is_out lo hi) c (map (place lo hi) m) (not_out c h) ∙ places-kept m hs
      ∙ sym (keep_skips (is_out lo hi) (pos 0) (map (rank_place lo hi) (map signed_rank m)) (not_out (pos 0) z))
  places-kept (above (suc k) ∷ m) (h, hs) =
      keep_beside (is_out lo hi) (place lo hi (above (suc k))) (map (place lo hi) m) (map (rank_place lo hi) (map signed_rank m)) (places-kept m hs)
  places-kept (below (suc k) ∷ m) (h, hs) =
      keep_beside (is_out lo hi) (place lo hi (below (suc k))) (map (place lo hi) m) (map (rank_place lo hi) (map signed_rank m)) (places-kept m hs)
  places-kept (above zero ∷ m) h = elim h.0 [ ]
  places-kept (below zero ∷ m) h = elim h.0 [ ]

  module _ (v w : List ℤ) (e : keep (is_out lo hi) v ≡ keep (is_out lo hi) w) where
    rank_of_place : (m : Mark) → Possible lo hi m → signed_rank (mark lo hi v (place lo hi m)) ≡ signed_rank (mark lo hi w (rank_place lo hi (signed_rank m)))
    unfolding place
    rank_of_place (inside c) h = ap signed_rank (mark-inside lo hi v c h) ∙ sym (ap signed_rank (mark-inside lo hi w (pos 0) z))
    rank_of_place (above (suc k)) h = ap signed_rank (mark-kept lo hi v w e (place lo hi (above (suc k))))
    rank_of_place (below (suc k)) h = ap signed_rank (mark-kept lo hi v w e (place lo hi (below (suc k))))
    rank_of_place (above zero) h = elim h [ ]
    rank_of_place (below zero) h = elim h [ ]

    ranks_of-marks : (m : List Mark) → All (Possible lo hi) m
        → map signed_rank (map (mark lo hi v) (map (place lo hi) m)) ≡ map signed_rank (map (mark lo hi w) (map (rank_place lo hi) (map signed_rank m)))
    ranks_of-marks [] h = refl
    ranks_of-marks (m ∷ ms) (h, hs) = ap₂ ◌∷◌ (rank_of_place m h) (ranks_of-marks ms hs)

  pub ranks_of_spread : (m : List Mark) → All (Possible lo hi) m → map signed_rank (pattern lo hi (spread lo hi m)) ≡ ranks_of (map signed_rank m)
  unfolding spread pattern
  ranks_of_spread m h =
      ranks_of-marks (map (place lo hi) m) (map (rank_place lo hi) (map signed_rank m)) (places-kept m h) m h ∙ ranks_of-places (map signed_rank m)

  pub pattern_own : (v : List ℤ) → ranks_of (map signed_rank (pattern lo hi v)) ≡ map signed_rank (pattern lo hi v)
  pattern_own v = sym (ranks_of_spread (pattern lo hi v) (pattern_possible v)) ∙ ap (map signed_rank) (pattern_spread z v)
