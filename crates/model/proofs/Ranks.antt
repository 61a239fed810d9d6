-- Valuations have one pattern exactly if they are alike. A rank counts different values by tests alone, so alike valuations have equal ranks;
-- and ranks grow with the distance from the edge, so that the spread of a pattern keeps the order: a valuation is alike to its spread.
use mathlib.Core.Path.{◌≡◌, refl, sym, ap, ap₂, ◌∙◌, subst}
use mathlib.Core.Bool.{Bool, true, false, not, cond, ◌&&◌, ◌||◌}
use mathlib.Core.List.{List, [], ◌∷◌, map}
use mathlib.Core.Logic.{◌⊎◌, inl, inr}
use Prim.Native.Nat.{ℕ, zero, suc, ◌+◌, ◌*◌, ◌≤◌}
use native.Mathlib.Omega.{arith}
use lib.IntN.{ℤ, pos}
use lib.Signed.{lt_z}
use lib.ListN.{length, get_or, length-map}
use lib.Seq.{ext_get_or}
use lib.Dec.{T}
use Rattle.model.specs.Pattern.{Mark, inside, equal, among, different, rank, mark, pattern}
use Rattle.model.proofs.Integers.{zarith, lt_out, true_in, true_out, false_out, and_in, and_out, or_in, or_right}
use Rattle.model.proofs.Lists.{get_d_map}
use Rattle.model.proofs.View.{Known}
pub use Rattle.model.proofs.EqualValues.{equal_in, equal_out}
use Rattle.model.proofs.Alike.{Alike, alike_sym, alike_trans}
use Rattle.model.proofs.Side.{place, spread, spread_value, mark-inside, moved_inside, Side, upper, lower, side}
use Rattle.model.proofs.Side.{Zone, beyond, within, zone, Tell, far, same, near, tell}
use Rattle.model.specs.Inner.Integers.{Inside}
use Rattle.model.specs.Inner.View.{Term, held, literal, lane_value, term}

-- ---- the count of different values depends on tests alone
among_same : (x y : ℤ) (v w : List ℤ) → length v ≡ length w → ((i : ℕ) → equal x (lane_value v i) ≡ equal y (lane_value w i)) → among x v ≡ among y w
unfolding among
among_same x y [] [] h f = refl
among_same x y [] (b ∷ w) h f = absurd (omega arith)
among_same x y (a ∷ v) [] h f = absurd (omega arith)
among_same x y (a ∷ v) (b ∷ w) h f = ap₂ ◌||◌ (f 0) (among_same x y v w (omega arith) (λ i. f (suc i)))

different-same : (p q : ℤ → Bool) (v w : List ℤ) → length v ≡ length w → ((i : ℕ) → p (lane_value v i) ≡ q (lane_value w i))
    → ((i j : ℕ) → equal (lane_value v i) (lane_value v j) ≡ equal (lane_value w i) (lane_value w j)) → different p v ≡ different q w
unfolding different
different-same p q [] [] h f g = refl
different-same p q [] (b ∷ w) h f g = absurd (omega arith)
different-same p q (a ∷ v) [] h f g = absurd (omega arith)
different-same p q (a ∷ v) (b ∷ w) h f g =
    rw (f 0, among_same a b v w (omega arith) (λ i. g 0 (suc i)), different-same p q v w (omega arith) (λ i. f (suc i)) (λ i j. g (suc i) (suc j)))

-- ---- a weaker test counts more, and strictly more if it lets one more value pass
counts : (k : ℕ) (b c m : Bool) (i j : ℕ) → (T b → T c) → k + i ≤ j → k + cond (b && not m) (suc i) i ≤ cond (c && not m) (suc j) j
counts k true true true i j f h = h
counts k true true false i j f h = omega arith
counts k true false m i j f h = absurd (f tt)
counts k false true true i j f h = h
counts k false true false i j f h = omega arith
counts k false false m i j f h = h

different_le : (p q : ℤ → Bool) (v : List ℤ) → ((x : ℤ) → T (p x) → T (q x)) → 0 + different p v ≤ different q v
unfolding different
different_le p q [] f = omega arith
different_le p q (a ∷ v) f = counts 0 (p a) (q a) (among a v) (different p v) (different q v) (f a) (different_le p q v f)

different_lt : (p q : ℤ → Bool) (v : List ℤ) (y : ℤ) → ((x : ℤ) → T (p x) → T (q x)) → T (among y v) → T (q y) → T (not (p y))
    → 1 + different p v ≤ different q v
unfolding different among
different_lt p q [] y f m k n = absurd m
different_lt p q (a ∷ v) y f m k n = go (among y v) refl (λ h. different_lt p q v y f h k n)
  where
    with_head : (ℤ → Bool) → ℤ → ℕ
    with_head r x = cond (r x && not (among x v)) (suc (different r v)) (different r v)

    Goal : ℤ → Type 0
    Goal x = 1 + with_head p x ≤ with_head q x

    first : T (equal y a) ⊎ T (among y v) → among y v ≡ false → y ≡ a
    first (inl h) e = equal_in y a h
    first (inr h) e = absurd (subst T e h)

    go : (b : Bool) → among y v ≡ b → (T (among y v) → 1 + different p v ≤ different q v) → Goal a
    go true e ih = counts 1 (p a) (q a) (among a v) (different p v) (different q v) (f a) (ih (true_in (among y v) e))
    go false e ih = subst Goal (first (or_in (equal y a) (among y v) m) e)
        (rw (e, false_out (p y) n, true_out (q y) k) (omega (arith, different_le p q v f)))

pub different-length : (p : ℤ → Bool) (v : List ℤ) → different p v ≤ length v
unfolding different
different-length p [] = omega arith
different-length p (a ∷ v) = go (p a && not (among a v)) (different-length p v)
  where
    go : (b : Bool) → different p v ≤ length v → cond b (suc (different p v)) (different p v) ≤ suc (length v)
    go true h = omega arith
    go false h = omega arith

-- ---- ranks on a side
nand : (a b : Bool) → T b → T (not (a && not b))
nand true true h = tt
nand true false h = absurd h
nand false b h = tt

module _ {lo hi : ℤ} (z : Inside lo hi (pos 0)) (S : Side lo hi) where
  open S use {out, back, less, lt_i, lt_o, tr_i, fa_i, edge, edge_in, inner, order, tag, marked, placed, stays}

  fails : (x : ℤ) → T (not (less x x))
  fails x = go (less x x) refl
    where
      go : (b : Bool) → less x x ≡ b → T (not b)
      go true e = omega (arith, tr_i)
      go false e = tt

  -- a value beyond the edge is one of the list
  among-at : (v : List ℤ) (i : ℕ) → T (less edge (lane_value v i)) → T (among (lane_value v i) v)
  unfolding among
  among-at [] i h = absurd (omega (arith, lt_i, inner (pos 0) z))
  among-at (a ∷ v) zero h = rw (true_out (equal a a) (equal_out a a refl)) tt
  among-at (a ∷ v) (suc i) h = or_right (equal (lane_value v i) a) (among (lane_value v i) v) (among-at v i h)

  pub among-term : (v : List ℤ) (t : Term) → Known lo hi t → T (less edge (term v t)) → T (among (term v t) v)
  among-term v (held i) k h = among-at v i h
  among-term v (literal c) k h = absurd (omega (arith, lt_i, inner c k))

  rank_lt : (v : List ℤ) (x y : ℤ) → T (less x y) → T (less edge y) → T (among y v) → 1 + rank less edge v x ≤ rank less edge v y
  rank_lt v x y h k m = different_lt (λ u. less edge u && not (less x u)) (λ u. less edge u && not (less y u)) v y
      (λ u r. let (a, b) = and_in (less edge u) (not (less x u)) r in and_out (less edge u) (not (less y u)) a (passes u b (less y u) refl))
      m (and_out (less edge y) (not (less y y)) k (fails y)) (nand (less edge y) (less x y) h)
    where
      passes : (u : ℤ) → T (not (less x u)) → (b : Bool) → less y u ≡ b → T (not b)
      passes u r true e = lib.Dec.T_not (less x u) r (lt_o x u (omega (arith, tr_i, lt_i)))
      passes u r false e = tt

  pub rank_pos : (v : List ℤ) (y : ℤ) → T (less edge y) → T (among y v) → 1 ≤ rank less edge v y
  rank_pos v y k m =
      let self = and_out (less edge y) (not (less y y)) k (fails y) in
      omega (arith, different_lt (λ u. false) (λ u. less edge u && not (less y u)) v y (λ u r. absurd r) m self tt)

  pub moved-beyond : (v : List ℤ) (x : ℤ) → T (less edge x)
      → out (spread_value lo hi v x) + back edge ≡ (out edge + 2 * rank less edge v x) + back (spread_value lo hi v x)
  moved-beyond v x h = rw (marked v x h) (placed (rank less edge v x))

  -- the spread keeps the order beyond the edge
  moved-further : (v : List ℤ) (x y : ℤ) → T (less x y) → T (less edge y) → T (among y v) → T (less (spread_value lo hi v x) (spread_value lo hi v y))
  moved-further v x y h k m = go (less edge x) refl
    where
      go : (b : Bool) → less edge x ≡ b → T (less (spread_value lo hi v x) (spread_value lo hi v y))
      go true e = lt_o (spread_value lo hi v x) (spread_value lo hi v y)
          (omega (arith, rank_lt v x y h k m, moved-beyond v x (true_in (less edge x) e), moved-beyond v y k))
      go false e = lt_o (spread_value lo hi v x) (spread_value lo hi v y) (omega (arith, rank_pos v y k m, stays v x e, moved-beyond v y k))

  -- alike valuations give their values one mark
  mark-beyond : (v w : List ℤ) → Alike lo hi v w → (i : ℕ) → T (less edge (lane_value v i)) → mark lo hi v (lane_value v i) ≡ mark lo hi w (lane_value w i)
  mark-beyond v w k i h = marked v (lane_value v i) h ∙ ap tag ranks ∙ sym (marked w (lane_value w i) (subst T (order k (literal edge) (held i) edge_in tt) h))
    where
      ranks : rank less edge v (lane_value v i) ≡ rank less edge w (lane_value w i)
      ranks = different-same (λ u. less edge u && not (less (lane_value v i) u)) (λ u. less edge u && not (less (lane_value w i) u)) v w k.size
          (λ j. rw (order k (literal edge) (held j) edge_in tt, order k (held i) (held j) tt tt))
          (λ a b. rw (k.order (held a) (held b) tt tt, k.order (held b) (held a) tt tt))

module _ {lo hi : ℤ} (z : Inside lo hi (pos 0)) where
  mark-alike : (v w : List ℤ) → Alike lo hi v w → (i : ℕ) → mark lo hi v (lane_value v i) ≡ mark lo hi w (lane_value w i)
  mark-alike v w k i = go (zone z (lane_value v i))
    where
      fails_too : {b c : Bool} → b ≡ c → T (not b) → T (not c)
      fails_too e h = subst (λ (d : Bool). T (not d)) e h

      go : Zone z (lane_value v i) → mark lo hi v (lane_value v i) ≡ mark lo hi w (lane_value w i)
      go (beyond b h) = mark-beyond z (side z b) v w k i h
      go (within h) = mark-inside lo hi v (lane_value v i) h ∙ ap inside e ∙ sym (mark-inside lo hi w (lane_value w i) (subst (Inside lo hi) e h))
        where
          e : lane_value v i ≡ lane_value w i
          e =
              let p = fails_too (k.order (literal (lane_value v i)) (held i) h tt) (omega zarith) in
              let q = fails_too (k.order (held i) (literal (lane_value v i)) tt h) (omega zarith) in
              omega zarith

  mark-at : (v : List ℤ) (i : ℕ) → get_or (map (mark lo hi v) v) i (inside (pos 0)) ≡ mark lo hi v (lane_value v i)
  mark-at v i = get_d_map (mark lo hi v) v i (pos 0) (inside (pos 0)) (mark-inside lo hi v (pos 0) z)

  pub pattern-alike : {v w : List ℤ} → Alike lo hi v w → pattern lo hi v ≡ pattern lo hi w
  unfolding pattern
  pattern-alike {v} {w} k = ext_get_or (inside (pos 0)) (map (mark lo hi v) v) (map (mark lo hi w) w)
      (length-map v (mark lo hi v) ∙ k.size ∙ sym (length-map w (mark lo hi w)))
      (λ i h. mark-at v i ∙ mark-alike v w k i ∙ sym (mark-at w i))

  -- ---- a valuation is alike to its spread
  moved_lt : (v : List ℤ) (s t : Term) → Known lo hi s → Known lo hi t → T (lt_z (term v s) (term v t))
      → T (lt_z (spread_value lo hi v (term v s)) (spread_value lo hi v (term v t)))
  moved_lt v s t j k h = go (lt_z hi (term v t)) (lt_z (term v s) lo) refl refl
    where
      go : (a b : Bool) → lt_z hi (term v t) ≡ a → lt_z (term v s) lo ≡ b → T (lt_z (spread_value lo hi v (term v s)) (spread_value lo hi v (term v t)))
      go true b e f =
          let q = true_in (lt_z hi (term v t)) e in
          moved-further z (upper z) v (term v s) (term v t) h q (among-term z (upper z) v t k q)
      go false true e f =
          let q = true_in (lt_z (term v s) lo) f in
          moved-further z (lower z) v (term v t) (term v s) h q (among-term z (lower z) v s j q)
      go false false e f =
          let p : Inside lo hi (term v s) = record { low = omega zarith; high = omega zarith } in
          let q : Inside lo hi (term v t) = record { low = omega zarith; high = omega zarith } in
          rw (moved_inside lo hi v (term v s) p, moved_inside lo hi v (term v t) q) h

  pub moved_order : (v : List ℤ) (s t : Term) → Known lo hi s → Known lo hi t
      → lt_z (spread_value lo hi v (term v s)) (spread_value lo hi v (term v t)) ≡ lt_z (term v s) (term v t)
  moved_order v s t j k = go (tell (upper z) (term v s) (term v t))
    where
      Same : Type 0
      Same = lt_z (spread_value lo hi v (term v s)) (spread_value lo hi v (term v t)) ≡ lt_z (term v s) (term v t)

      never : T (not (lt_z (spread_value lo hi v (term v s)) (spread_value lo hi v (term v t)))) → T (not (lt_z (term v s) (term v t))) → Same
      never p q = false_out (lt_z (spread_value lo hi v (term v s)) (spread_value lo hi v (term v t))) p ∙ sym (false_out (lt_z (term v s) (term v t)) q)

      go : Tell (upper z) (term v s) (term v t) → Same
      go (far h) =
          let q = lt_out (term v s) (term v t) h in
          true_out (lt_z (spread_value lo hi v (term v s)) (spread_value lo hi v (term v t))) (moved_lt v s t j k q) ∙ sym (true_out (lt_z (term v s) (term v t)) q)
      go (same e) = let q = ap (spread_value lo hi v) e in never (omega zarith) (omega zarith)
      go (near h) = let q = moved_lt v t s k j (lt_out (term v t) (term v s) h) in never (omega zarith) (omega zarith)

  pub term_spread : (v : List ℤ) (t : Term) → Known lo hi t → term (spread lo hi (pattern lo hi v)) t ≡ spread_value lo hi v (term v t)
  unfolding spread pattern place
  term_spread v (held i) h =
      get_d_map (place lo hi) (map (mark lo hi v) v) i (inside (pos 0)) (pos 0) refl ∙ ap (place lo hi) (mark-at v i)
  term_spread v (literal c) h = sym (moved_inside lo hi v c h)

  pub length-pattern : (v : List ℤ) → length (pattern lo hi v) ≡ length v
  unfolding pattern
  length-pattern v = length-map v (mark lo hi v)

  pub alike_spread : (v : List ℤ) → Alike lo hi v (spread lo hi (pattern lo hi v))
  unfolding spread
  alike_spread v = record {
    size = sym (length-map (pattern lo hi v) (place lo hi) ∙ length-pattern v);
    order = λ s t h k. sym (ap₂ lt_z (term_spread v s h) (term_spread v t k) ∙ moved_order v s t h k);
  }

  pub alike-pattern : {v w : List ℤ} → pattern lo hi v ≡ pattern lo hi w → Alike lo hi v w
  alike-pattern {v} {w} e =
      alike_trans (alike_spread v) (subst (λ (q : List Mark). Alike lo hi (spread lo hi q) w) (sym e) (alike_sym (alike_spread w)))

  pub pattern_spread : (v : List ℤ) → pattern lo hi (spread lo hi (pattern lo hi v)) ≡ pattern lo hi v
  pattern_spread v = sym (pattern-alike (alike_spread v))
