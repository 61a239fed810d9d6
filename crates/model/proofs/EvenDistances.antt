-- On one side: values at even distances beyond the edge leave room for one more between two neighbours. So what a number x is to any values, some y
-- near lo..hi is to these, if they are alike. And the spread puts every value at an even distance.
use mathlib.Core.Path.{◌≡◌, refl, subst}
use mathlib.Core.Bool.{Bool, true, false, not, ◌&&◌}
use mathlib.Core.List.{List}
use mathlib.Core.Logic.{◌⊎◌, inl, inr}
use Prim.Native.Nat.{ℕ, suc, ◌+◌, ◌*◌, ◌≤◌}
use native.Mathlib.Omega.{arith}
use lib.IntN.{ℤ, pos}
use lib.ListN.{length}
use lib.Dec.{T}
use Rattle.model.specs.Pattern.{rank}
use Rattle.model.specs.Sample.{Near}
use Rattle.model.proofs.Integers.{true_in}
use Rattle.model.proofs.Lists.{all_get_d}
use Rattle.model.proofs.Alike.{Alike, Fits, fits_term}
use Rattle.model.proofs.Side.{spread_value, Side, side}
use Rattle.model.proofs.Ranks.{different-length, moved-beyond}
use Rattle.model.proofs.Room.{Absent, holds, Top, top, top_is, fits_next}
use Rattle.model.specs.Inner.Lists.{All}
use Rattle.model.specs.Inner.Integers.{Inside}
use Rattle.model.specs.Inner.View.{held, literal, lane_value}
use Rattle.model.specs.Inner.Runs.{furthest}

-- if u lies beyond the edge, it does so at an even distance of at most 2 n
abbrev pub Even : {lo hi : ℤ} → Side lo hi → ℕ → ℤ → Type 0
Even S n u = T (S.less S.edge u) → (k : ℕ) × (S.out u + S.back S.edge ≡ (S.out S.edge + 2 * k) + S.back u) × (k ≤ n)

abbrev pub Spaced : {lo hi : ℤ} → Inside lo hi (pos 0) → ℕ → List ℤ → Type 0
Spaced z n w = (b : Bool) → All (Even (side z b) n) w

-- y near lo..hi is to w what x is to v
abbrev pub Candidate : (lo hi : ℤ) → ℕ → List ℤ → ℤ → List ℤ → Type 0
Candidate lo hi n v x w = (y : ℤ) × Near lo hi (suc (2 * n)) y × Fits lo hi v x w y

module _ {lo hi : ℤ} (z : Inside lo hi (pos 0)) (S : Side lo hi) where
  open S use {out, back, less, next, lt_i, lt_o, tr_i, fa_i, eq_i, next-is, edge, edge_in, inner, order, near_even, stays}

  module _ (n : ℕ) {v w : List ℤ} (k : Alike lo hi v w) (even : All (Even S n) w) where
    even_at : (i : ℕ) → Even S n (lane_value w i)
    even_at i = all_get_d (Even S n) w i (pos 0) even (λ h. absurd (omega (arith, lt_i, inner (pos 0) z)))

    top_even : (x t : ℤ) → Top S edge v w x t → (j : ℕ) × (out t + back edge ≡ (out edge + 2 * j) + back t) × (j ≤ n)
    top_even x t r = go (less edge t) refl
      where
        go : (b : Bool) → less edge t ≡ b → (j : ℕ) × (out t + back edge ≡ (out edge + 2 * j) + back t) × (j ≤ n)
        go true e = top_is S edge v w x t r (Even S n) (λ h. absurd (omega (arith, lt_i))) (λ i h. even_at i) (true_in (less edge t) e)
        go false e = (0, omega (arith, fa_i, r.from), omega arith)

    pub candidate_beyond : (x : ℤ) → T (less edge x) → Candidate lo hi n v x w
    candidate_beyond x h = go (holds v x (λ e. omega (arith, lt_i, eq_i, inner (pos 0) z)))
      where
        go : ((i : ℕ) × (lane_value v i ≡ x)) ⊎ Absent v x → Candidate lo hi n v x w
        go (inl (i, e)) =
            let (j, a, b) = even_at i (subst T (order k (literal edge) (held i) edge_in tt) (lt_o edge (lane_value v i) (omega (arith, lt_i, eq_i)))) in
            let fits = subst (λ (u : ℤ). Fits lo hi v u w (lane_value w i)) e (fits_term (held i) tt k) in
            (lane_value w i, near_even (suc (2 * n)) (lane_value w i) (omega arith) (omega arith), fits)
        go (inr none) =
            let t = furthest less edge x v w in
            let r = top S edge (inner (pos 0) z) v w x k.size in
            let (j, a, b) = top_even x t r in (
              next t,
              near_even (suc (2 * n)) (next t) (omega (arith, next-is t)) (omega (arith, next-is t)),
              fits_next S v w x t k h none r
                  (λ i e. let (l, c, d) = even_at i (lt_o edge (lane_value w i) (omega (arith, eq_i, next-is t))) in omega (arith, eq_i, next-is t)),
            )

  -- the spread puts every value at an even distance
  pub even_moved : (v : List ℤ) (x : ℤ) → Even S (length v) (spread_value lo hi v x)
  even_moved v x h = go (less edge x) refl
    where
      go : (b : Bool) → less edge x ≡ b → (k : ℕ) × (out (spread_value lo hi v x) + back edge ≡ (out edge + 2 * k) + back (spread_value lo hi v x)) × (k ≤ length v)
      go true e = (rank less edge v x, moved-beyond z S v x (true_in (less edge x) e), different-length (λ u. less edge u && not (less x u)) v)
      go false e = absurd (omega (arith, lt_i, stays v x e))

  pub even_inside : (n : ℕ) (c : ℤ) → Inside lo hi c → Even S n c
  even_inside n c k h = absurd (omega (arith, lt_i, inner c k))
