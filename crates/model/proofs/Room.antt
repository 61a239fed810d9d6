-- A number y that v does not hold, beyond an edge, finds its place among the values of an alike w: next to the furthest t of the edge and
-- those values whose counterparts lie before y. If w has no room there, all that lies beyond t moves one further out; this *shift* is faithful.
use mathlib.Core.Path.{◌≡◌, refl, sym, ◌∙◌, subst}
use mathlib.Core.Bool.{Bool, true, false, cond, ◌&&◌}
use mathlib.Core.List.{List, [], ◌∷◌, map}
use mathlib.Core.Logic.{◌⊎◌, inl, inr}
use Prim.Native.Nat.{ℕ, zero, suc, ◌+◌, ◌≤◌}
use native.Mathlib.Omega.{arith}
use lib.IntN.{ℤ, pos, ℤ_discrete}
use lib.ListN.{length}
use lib.Dec.{T}
use Rattle.model.specs.Sample.{Near}
use Rattle.model.proofs.Integers.{true_in}
use Rattle.model.proofs.Lists.{all_get_d}
use Rattle.model.proofs.View.{Known}
use Rattle.model.proofs.Faithful.{Faithful, term-map}
use Rattle.model.proofs.Alike.{Alike, alike_trans, alike-map, Fits, fits_term}
use Rattle.model.proofs.Side.{Nearer, near-wider, inside-near, Side, side, Zone, beyond, within, zone, same-less, Tell, far, same, near, tell}
use Rattle.model.specs.Inner.Lists.{All}
use Rattle.model.specs.Inner.Integers.{Inside}
use Rattle.model.specs.Inner.View.{Term, held, literal, lane_value, term}
use Rattle.model.specs.Inner.Runs.{furthest}

-- v holds x, or not
abbrev pub Absent : List ℤ → ℤ → Type 0
Absent v x = (i : ℕ) → lane_value v i ≡ x → ⊥

pub holds : (v : List ℤ) (x : ℤ) → (pos 0 ≡ x → ⊥) → ((i : ℕ) × (lane_value v i ≡ x)) ⊎ Absent v x
holds [] x nz = inr (λ i e. nz e)
holds (a ∷ v) x nz = go (ℤ_discrete a x) (holds v x nz)
  where
    absent : (a ≡ x → ⊥) → Absent v x → Absent (a ∷ v) x
    absent f g zero e = f e
    absent f g (suc i) e = g i e

    go : Dec (a ≡ x) → ((i : ℕ) × (lane_value v i ≡ x)) ⊎ Absent v x → ((i : ℕ) × (lane_value (a ∷ v) i ≡ x)) ⊎ Absent (a ∷ v) x
    go (yes e) r = inl (zero, e)
    go (no f) (inl (i, e)) = inl (suc i, e)
    go (no f) (inr g) = inr (absent f g)

module _ {lo hi : ℤ} (S : Side lo hi) where
  open S use {out, back, less, next, lt_i, lt_o, tr_i, fa_i, eq_i, next-is, edge, edge_in, inner, order, fits, keeps, near_next}

  -- t is m, or a w i whose v i lies before x
  abbrev pub Source : (m : ℤ) → List ℤ → List ℤ → (x t : ℤ) → Type 0
  Source m v w x t = (t ≡ m) ⊎ ((i : ℕ) × T (less (lane_value v i) x) × (t ≡ lane_value w i))

  -- t is no nearer than the w i whose v i lies before x
  abbrev pub Covers : List ℤ → List ℤ → (x t : ℤ) → Type 0
  Covers v w x t = (i : ℕ) → T (less (lane_value v i) x) → out (lane_value w i) + back t ≤ out t + back (lane_value w i)

  -- t is the furthest of m and the w i whose v i lies before x
  pub record Top (m : ℤ) (v w : List ℤ) (x t : ℤ) : Type 0 where
    pub from : out m + back t ≤ out t + back m
    pub covers : Covers v w x t
    pub is : Source m v w x t

  pub top_is : (m : ℤ) (v w : List ℤ) (x t : ℤ) → Top m v w x t → (P : ℤ → Type 0) → P m → ((i : ℕ) → T (less (lane_value v i) x) → P (lane_value w i)) → P t
  top_is m v w x t r P p f = go r.is
    where
      go : Source m v w x t → P t
      go (inl e) = subst P (sym e) p
      go (inr (i, h, e)) = subst P (sym e) (f i h)

  pub top : (m : ℤ) → out (pos 0) + back m ≤ out m + back (pos 0) → (v w : List ℤ) (x : ℤ) → length v ≡ length w → Top m v w x (furthest less m x v w)
  top m z [] [] x h = record { from = omega arith; covers = λ i k. z; is = inl refl }
  top m z [] (b ∷ w) x h = absurd (omega arith)
  top m z (a ∷ v) [] x h = absurd (omega arith)
  top m z (a ∷ v) (b ∷ w) x h = go (λ n k. top n k v w x (omega arith)) (less a x) (less m b) refl refl
    where
      Rest : Type 0
      Rest = (n : ℤ) → out (pos 0) + back n ≤ out n + back (pos 0) → Top n v w x (furthest less n x v w)

      both : (t : ℤ) → (T (less a x) → out b + back t ≤ out t + back b) → Covers v w x t → Covers (a ∷ v) (b ∷ w) x t
      both t f g zero k = f k
      both t f g (suc i) k = g i k

      later : (t n : ℤ) → (t ≡ n → Source m (a ∷ v) (b ∷ w) x t) → Source n v w x t → Source m (a ∷ v) (b ∷ w) x t
      later t n f (inl e) = f e
      later t n f (inr (i, k, e)) = inr (suc i, k, e)

      stay : Rest → (T (less a x) → out b + back m ≤ out m + back b) → Top m (a ∷ v) (b ∷ w) x (furthest less m x v w)
      stay rest f =
          let r = rest m z in
          let t = furthest less m x v w in
          let q = r.from in
          record { from = q; covers = both t (λ k. omega (arith, f k)) r.covers; is = later t m (λ e. inl e) r.is }

      go : Rest → (c d : Bool) → less a x ≡ c → less m b ≡ d → Top m (a ∷ v) (b ∷ w) x (furthest less (cond (c && d) b m) x v w)
      go rest true true e e' =
          let r = rest b (omega (arith, tr_i)) in
          let t = furthest less b x v w in
          let q = r.from in
          let here : t ≡ b → Source m (a ∷ v) (b ∷ w) x t = λ k. inr (zero, true_in (less a x) e, k) in
          record { from = omega (arith, tr_i); covers = both t (λ k. q) r.covers; is = later t b here r.is }
      go rest true false e e' = stay rest (λ k. omega (arith, fa_i))
      go rest false d e e' = stay rest (λ k. absurd (omega (arith, lt_i, fa_i)))

  -- what is beyond the edge and not held is no term's value
  absent_term : (v : List ℤ) (x : ℤ) → Nearer S edge x → Absent v x → (t : Term) → Known lo hi t → term v t ≡ x → ⊥
  absent_term v x h none (held i) k e = none i e
  absent_term v x h none (literal c) k e = omega (arith, eq_i, inner c k)

  -- next to t is the place of x
  pub fits_next : (v w : List ℤ) (x t : ℤ) → Alike lo hi v w → T (less edge x) → Absent v x → Top edge v w x t → Absent w (next t)
      → Fits lo hi v x w (next t)
  fits_next v w x t k hx none r room = fits (λ s j. before s j (tell S x (term v s))) (λ s j. behind s j (tell S x (term v s)))
    where
      y : ℤ
      y = next t

      over : (s : Term) → Known lo hi s → Nearer S x (term v s) → Nearer S y (term w s)
      over s j h = go (tell S y (term w s))
        where
          beyond_t : T (less t (term w s))
          beyond_t = top_is edge v w x t r (λ u. T (less u (term w s)))
              (subst T (order k (literal edge) s edge_in j) (lt_o edge (term v s) (omega (arith, lt_i))))
              (λ i q. subst T (order k (held i) s tt j) (lt_o (lane_value v i) (term v s) (omega (arith, lt_i))))

          go : Tell S y (term w s) → Nearer S y (term w s)
          go (far q) = q
          go (same q) = absurd (absent_term w y (omega (arith, next-is t, r.from)) room s j (sym q))
          go (near q) = absurd (omega (arith, next-is t, lt_i t (term w s) beyond_t))

      under : (s : Term) → Known lo hi s → Nearer S (term v s) x → Nearer S (term w s) y
      under (held i) j h = omega (arith, next-is t, r.covers i (lt_o (lane_value v i) x h))
      under (literal c) j h = omega (arith, next-is t, inner c j, r.from)

      before : (s : Term) → Known lo hi s → Tell S x (term v s) → less x (term v s) ≡ less y (term w s)
      before s j (far h) = same-less S x (term v s) y (term w s) (λ p. over s j h) (λ p. h)
      before s j (same e) = absurd (absent_term v x (lt_i edge x hx) none s j (sym e))
      before s j (near h) = same-less S x (term v s) y (term w s) (λ p. omega arith) (λ p. omega (arith, under s j h))

      behind : (s : Term) → Known lo hi s → Tell S x (term v s) → less (term v s) x ≡ less (term w s) y
      behind s j (far h) = same-less S (term v s) x (term w s) y (λ p. omega arith) (λ p. omega (arith, over s j h))
      behind s j (same e) = absurd (absent_term v x (lt_i edge x hx) none s j (sym e))
      behind s j (near h) = same-less S (term v s) x (term w s) y (λ p. under s j h) (λ p. h)

  -- ---- the shift that makes room beyond t
  unfoldable pub shift : ℤ → ℤ → ℤ
  shift t x = cond (less t x) (next x) x

  shift_fixes : (t x : ℤ) → out x + back t ≤ out t + back x → shift t x ≡ x
  unfolding shift
  shift_fixes t x h = go (less t x) refl
    where
      go : (a : Bool) → less t x ≡ a → cond a (next x) x ≡ x
      go true e = absurd (omega (arith, tr_i))
      go false e = refl

  shift_moves : (t x : ℤ) → Nearer S t x → shift t x ≡ next x
  unfolding shift
  shift_moves t x h = go (less t x) refl
    where
      go : (a : Bool) → less t x ≡ a → cond a (next x) x ≡ next x
      go true e = refl
      go false e = absurd (omega (arith, fa_i))

  pub shift_faithful : (t : ℤ) → out edge + back t ≤ out t + back edge → Faithful lo hi (shift t)
  unfolding shift
  shift_faithful t h = record {
    keeps = keeps (shift t) (λ x y. go x y (less t x) (less t y) refl refl);
    fixes = λ c k. shift_fixes t c (omega (arith, inner c k));
  }
    where
      go : (x y : ℤ) (a b : Bool) → less t x ≡ a → less t y ≡ b → less (cond a (next x) x) (cond b (next y) y) ≡ less x y
      go x y true true h k = same-less S (next x) (next y) x y (omega (arith, next-is x, next-is y)) (omega (arith, next-is x, next-is y))
      go x y true false h k = same-less S (next x) y x y (omega (arith, tr_i, fa_i, next-is x)) (omega (arith, tr_i, fa_i, next-is x))
      go x y false true h k = same-less S x (next y) x y (omega (arith, tr_i, fa_i, next-is y)) (omega (arith, tr_i, fa_i, next-is y))
      go x y false false h k = refl

  pub shift_near : (t : ℤ) (n : ℕ) (u : ℤ) → Near lo hi n u → Near lo hi (suc n) (shift t u)
  unfolding shift
  shift_near t n u k = go (less t u)
    where
      go : (b : Bool) → Near lo hi (suc n) (cond b (next u) u)
      go true = near_next n u k
      go false = near-wider (suc n) (omega arith) k

pub near-term : {lo hi : ℤ} → Inside lo hi (pos 0) → (n : ℕ) (v : List ℤ) → All (Near lo hi n) v → (t : Term) → Known lo hi t → Near lo hi n (term v t)
near-term {lo} {hi} z n v h (held i) j = all_get_d (Near lo hi n) v i (pos 0) h (inside-near n z)
near-term z n v h (literal c) j = inside-near n j

-- ---- f moves the values v one outward at most, and x is to them what y is to w
pub record Room (lo hi : ℤ) (w v : List ℤ) (y : ℤ) (f : ℤ → ℤ) (x : ℤ) : Type 0 where
  pub faithful : Faithful lo hi f
  pub near : (n : ℕ) (u : ℤ) → Near lo hi n u → Near lo hi (suc n) (f u)
  pub new-near : (n : ℕ) → All (Near lo hi n) v → Near lo hi (suc n) x
  pub alike : Alike lo hi w (map f v)
  pub fits : Fits lo hi w y (map f v) x

module _ {lo hi : ℤ} (z : Inside lo hi (pos 0)) {w v : List ℤ} (k : Alike lo hi w v) where
  -- the value of a term has its place already: nothing is moved
  pub room-term : (t : Term) → Known lo hi t → Room lo hi w v (term w t) (λ u. u) (term v t)
  room-term t j = record {
    faithful = still;
    near = λ n u h. near-wider (suc n) (omega arith) h;
    new-near = λ n h. near-wider (suc n) (omega arith) (near-term z n v h t j);
    alike = alike;
    fits = subst (λ (x : ℤ). Fits lo hi w (term w t) (map (λ u. u) v) x) (term-map lo hi (λ u. u) z still v t j) (fits_term t j alike);
  }
    where
      still : Faithful lo hi (λ u. u)
      still = record { keeps = λ x y. refl; fixes = λ c h. refl }

      alike : Alike lo hi w (map (λ u. u) v)
      alike = alike_trans k (alike-map (λ u. u) z still v)

  module _ (S : Side lo hi) where
    open S use {out, back, less, next, lt_i, eq_i, next-is, edge, edge_in, inner, near_next}

    -- a new number beyond the edge: what lies beyond t moves, and next to t is room
    pub room-beyond : (y t : ℤ) → T (less edge y) → Absent w y → Top S edge w v y t → Room lo hi w v y (shift S t) (next t)
    room-beyond y t h none r = record {
      faithful = faithful;
      near = shift_near S t;
      new-near = λ n q. near_next n t (top_is S edge w v y t r (Near lo hi n) (inside-near n edge_in) (λ i j. near-term z n v q (held i) tt));
      alike = alike;
      fits = fits_next S w (map (shift S t) v) y t alike h none shifted free;
    }
      where
        faithful : Faithful lo hi (shift S t)
        faithful = shift_faithful S t r.from

        alike : Alike lo hi w (map (shift S t) v)
        alike = alike_trans k (alike-map (shift S t) z faithful v)

        at_shifted : (i : ℕ) → lane_value (map (shift S t) v) i ≡ shift S t (lane_value v i)
        at_shifted i = term-map lo hi (shift S t) z faithful v (held i) tt

        still : (i : ℕ) → T (less (lane_value w i) y) → lane_value (map (shift S t) v) i ≡ lane_value v i
        still i j = at_shifted i ∙ shift_fixes S t (lane_value v i) (r.covers i j)

        held_still : Source S edge w v y t → Source S edge w (map (shift S t) v) y t
        held_still (inl e) = inl e
        held_still (inr (i, j, e)) = inr (i, j, e ∙ sym (still i j))

        shifted : Top S edge w (map (shift S t) v) y t
        shifted = record { from = r.from; covers = λ i j. rw (still i j) (r.covers i j); is = held_still r.is }

        free : Absent (map (shift S t) v) (next t)
        free i e = go (tell S t (lane_value v i))
          where
            stays : out (lane_value v i) + back t ≤ out t + back (lane_value v i) → ⊥
            stays j = omega (arith, next-is t, eq_i (lane_value v i) (next t) (sym (shift_fixes S t (lane_value v i) j) ∙ sym (at_shifted i) ∙ e))

            go : Tell S t (lane_value v i) → ⊥
            go (far j) =
                let q = sym (shift_moves S t (lane_value v i) j) ∙ sym (at_shifted i) ∙ e in
                omega (arith, next-is t, next-is (lane_value v i), eq_i (next (lane_value v i)) (next t) q)
            go (same j) = stays (omega (arith, eq_i))
            go (near j) = stays (omega arith)

    room_side : (y : ℤ) → T (less edge y) → (f : ℤ → ℤ) × (x : ℤ) × Room lo hi w v y f x
    room_side y h = go (holds w y (λ e. omega (arith, lt_i, eq_i, inner (pos 0) z)))
      where
        go : ((i : ℕ) × (lane_value w i ≡ y)) ⊎ Absent w y → (f : ℤ → ℤ) × (x : ℤ) × Room lo hi w v y f x
        go (inl (i, e)) = (λ u. u, lane_value v i, subst (λ (q : ℤ). Room lo hi w v q (λ u. u) (lane_value v i)) e (room-term (held i) tt))
        go (inr none) =
            let t = furthest less edge y w v in
            (shift S t, next t, room-beyond y t h none (top S edge (inner (pos 0) z) w v y k.size))

  -- there is always room
  pub room : (y : ℤ) → (f : ℤ → ℤ) × (x : ℤ) × Room lo hi w v y f x
  room y = go (zone z y)
    where
      go : Zone z y → (f : ℤ → ℤ) × (x : ℤ) × Room lo hi w v y f x
      go (within h) = (λ u. u, y, room-term (literal y) h)
      go (beyond b h) = room_side (side z b) y h
