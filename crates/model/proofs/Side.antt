-- The two sides of lo..hi as one: a side is an order of the whole numbers that points outward, with the last number inside as its edge.
-- What lies beyond hi and what lies beyond lo is then proved once, for a side. A side also knows which mark a pattern gives there, and
-- where the *spread* of a pattern puts that mark: rank k two times k beyond the edge, so that between two neighbours there is room for one.
use mathlib.Core.Path.{◌≡◌, refl}
use mathlib.Core.Bool.{Bool, true, false}
use mathlib.Core.List.{List, map}
use Prim.Native.Nat.{ℕ, suc, ◌+◌, ◌*◌, ◌<◌, ◌≤◌}
use native.Mathlib.Omega.{arith}
use lib.IntN.{ℤ, pos, suc_ℤ, pred_ℤ, ◌+ℤ◌, neg_ℤ}
use lib.Signed.{lt_z}
use lib.Dec.{T}
use Rattle.model.specs.Pattern.{Mark, inside, above, below, rank, mark}
use Rattle.model.specs.Sample.{Near}
use Rattle.model.proofs.Integers.{zarith, suc_is, pred_is, add_pos, sub_pos, same_test, true_out}
use Rattle.model.proofs.Integers.{false_out, lt_in, lt_out, lt_true, lt_false, eq_in, eq_out}
use Rattle.model.proofs.View.{Known}
use Rattle.model.proofs.Alike.{Alike, Fits}
use Rattle.model.specs.Inner.Integers.{up, dn, Inside}
use Rattle.model.specs.Inner.View.{Term, term}

-- the spread of a pattern, and where it puts a value
unfoldable pub place : (lo hi : ℤ) → Mark → ℤ
place lo hi (inside c) = c
place lo hi (above k) = hi +ℤ pos (2 * k)
place lo hi (below k) = lo +ℤ neg_ℤ (pos (2 * k))

unfoldable pub spread : (lo hi : ℤ) → List Mark → List ℤ
spread lo hi marks = map (place lo hi) marks

abbrev pub spread_value : (lo hi : ℤ) → List ℤ → ℤ → ℤ
spread_value lo hi v x = place lo hi (mark lo hi v x)

pub mark-inside : (lo hi : ℤ) (v : List ℤ) (x : ℤ) → Inside lo hi x → mark lo hi v x ≡ inside x
unfolding mark
mark-inside lo hi v x h = rw (false_out (lt_z hi x) (omega zarith), false_out (lt_z x lo) (omega zarith))

pub moved_inside : (lo hi : ℤ) (v : List ℤ) (x : ℤ) → Inside lo hi x → spread_value lo hi v x ≡ x
unfolding place
moved_inside lo hi v x h = rw (mark-inside lo hi v x h)

-- `Near` as differences
pub near_in : {lo hi : ℤ} {n : ℕ} {x : ℤ} → Near lo hi n x → (up lo + dn x ≤ up x + dn lo + n) × (up x + dn hi ≤ up hi + dn x + n)
near_in {lo} {hi} {n} {x} h = (omega (zarith, sub_pos lo n), omega (zarith, add_pos hi n))

pub near_out : (lo hi : ℤ) (n : ℕ) (x : ℤ) → up lo + dn x ≤ up x + dn lo + n → up x + dn hi ≤ up hi + dn x + n → Near lo hi n x
near_out lo hi n x h k = record { low = omega (zarith, sub_pos lo n); high = omega (zarith, add_pos hi n) }

pub near-wider : {lo hi : ℤ} {n : ℕ} (m : ℕ) {x : ℤ} → n ≤ m → Near lo hi n x → Near lo hi m x
near-wider {lo} {hi} {n} m {x} h k = let (p, q) = near_in k in near_out lo hi m x (omega arith) (omega arith)

pub inside-near : {lo hi : ℤ} (n : ℕ) {c : ℤ} → Inside lo hi c → Near lo hi n c
inside-near {lo} {hi} n {c} h = near_out lo hi n c (omega zarith) (omega zarith)

pub record Side (lo hi : ℤ) : Type 0 where
  -- x lies `out x - back x` outward of 0
  pub out : ℤ → ℕ
  pub back : ℤ → ℕ
  -- y is further out than x; the number next to x outward
  pub less : ℤ → ℤ → Bool
  pub next : ℤ → ℤ
  pub lt_i : (x y : ℤ) → T (less x y) → out x + back y < out y + back x
  pub lt_o : (x y : ℤ) → out x + back y < out y + back x → T (less x y)
  pub tr_i : (x y : ℤ) → less x y ≡ true → out x + back y < out y + back x
  pub fa_i : (x y : ℤ) → less x y ≡ false → out y + back x ≤ out x + back y
  pub eq_i : (x y : ℤ) → x ≡ y → out x + back y ≡ out y + back x
  pub eq_o : (x y : ℤ) → out x + back y ≡ out y + back x → x ≡ y
  pub next-is : (x : ℤ) → out (next x) + back x ≡ suc (out x + back (next x))
  -- the last number inside
  pub edge : ℤ
  pub edge_in : Inside lo hi edge
  pub inner : (c : ℤ) → Inside lo hi c → out c + back edge ≤ out edge + back c
  -- alike, fitting, near and order-preserving, said on this side
  pub order : {v w : List ℤ} → Alike lo hi v w → (s t : Term) → Known lo hi s → Known lo hi t → less (term v s) (term v t) ≡ less (term w s) (term w t)
  pub fits : {v w : List ℤ} {x y : ℤ} → ((t : Term) → Known lo hi t → less x (term v t) ≡ less y (term w t))
      → ((t : Term) → Known lo hi t → less (term v t) x ≡ less (term w t) y) → Fits lo hi v x w y
  pub keeps : (f : ℤ → ℤ) → ((x y : ℤ) → less (f x) (f y) ≡ less x y) → (x y : ℤ) → lt_z (f x) (f y) ≡ lt_z x y
  pub near_next : (n : ℕ) (x : ℤ) → Near lo hi n x → Near lo hi (suc n) (next x)
  pub near_even : (n : ℕ) (y : ℤ) → out edge + back y ≤ out y + back edge → out y + back edge ≤ out edge + back y + n → Near lo hi n y
  -- the mark of a value beyond the edge, its place in the spread, and that no other value is put beyond the edge
  pub tag : ℕ → Mark
  pub marked : (v : List ℤ) (x : ℤ) → T (less edge x) → mark lo hi v x ≡ tag (rank less edge v x)
  pub placed : (k : ℕ) → out (place lo hi (tag k)) + back edge ≡ (out edge + 2 * k) + back (place lo hi (tag k))
  pub stays : (v : List ℤ) (x : ℤ) → less edge x ≡ false → out (spread_value lo hi v x) + back edge ≤ out edge + back (spread_value lo hi v x)

module _ {lo hi : ℤ} (z : Inside lo hi (pos 0)) where
  pub above-mark : (v : List ℤ) (x : ℤ) → T (lt_z hi x) → mark lo hi v x ≡ above (rank lt_z hi v x)
  unfolding mark
  above-mark v x h = rw (true_out (lt_z hi x) h)

  pub below-mark : (v : List ℤ) (x : ℤ) → T (lt_z x lo) → mark lo hi v x ≡ below (rank (λ y u. lt_z u y) lo v x)
  unfolding mark
  below-mark v x h = rw (false_out (lt_z hi x) (omega zarith), true_out (lt_z x lo) h)

  pub above_placed : (k : ℕ) → up (place lo hi (above k)) + dn hi ≡ (up hi + 2 * k) + dn (place lo hi (above k))
  unfolding place
  above_placed k = add_pos hi (2 * k)

  pub below_placed : (k : ℕ) → dn (place lo hi (below k)) + up lo ≡ (dn lo + 2 * k) + up (place lo hi (below k))
  unfolding place
  below_placed k = omega (arith, sub_pos lo (2 * k))

  pub not_above : (v : List ℤ) (x : ℤ) → lt_z hi x ≡ false → up (spread_value lo hi v x) + dn hi ≤ up hi + dn (spread_value lo hi v x)
  not_above v x h = go (lt_z x lo) refl
    where
      go : (b : Bool) → lt_z x lo ≡ b → up (spread_value lo hi v x) + dn hi ≤ up hi + dn (spread_value lo hi v x)
      go true e = rw (below-mark v x (omega zarith)) (omega (zarith, below_placed (rank (λ y u. lt_z u y) lo v x)))
      go false e = rw (moved_inside lo hi v x (record { low = omega zarith; high = omega zarith })) (omega zarith)

  pub not_below : (v : List ℤ) (x : ℤ) → lt_z x lo ≡ false → dn (spread_value lo hi v x) + up lo ≤ dn lo + up (spread_value lo hi v x)
  not_below v x h = go (lt_z hi x) refl
    where
      go : (b : Bool) → lt_z hi x ≡ b → dn (spread_value lo hi v x) + up lo ≤ dn lo + up (spread_value lo hi v x)
      go true e = rw (above-mark v x (omega zarith)) (omega (zarith, above_placed (rank lt_z hi v x)))
      go false e = rw (moved_inside lo hi v x (record { low = omega zarith; high = omega zarith })) (omega zarith)

  abbrev pub upper : Side lo hi
  upper = record {
    out = up;
    back = dn;
    less = lt_z;
    next = suc_ℤ;
    lt_i = lt_in;
    lt_o = lt_out;
    tr_i = lt_true;
    fa_i = lt_false;
    eq_i = eq_in;
    eq_o = eq_out;
    next-is = suc_is;
    edge = hi;
    edge_in = record { low = omega zarith; high = omega zarith };
    inner = λ c h. omega zarith;
    order = λ k. k.order;
    fits = λ a b. record { before = a; behind = b };
    keeps = λ f k. k;
    near_next = λ n x h. let (p, q) = near_in h in near_out lo hi (suc n) (suc_ℤ x) (omega (arith, suc_is x)) (omega (arith, suc_is x));
    near_even = λ n y h k. near_out lo hi n y (omega zarith) (omega arith);
    tag = above;
    marked = above-mark;
    placed = above_placed;
    stays = not_above;
  }

  abbrev pub lower : Side lo hi
  lower = record {
    out = dn;
    back = up;
    less = λ x y. lt_z y x;
    next = pred_ℤ;
    lt_i = λ x y h. omega zarith;
    lt_o = λ x y h. lt_out y x (omega arith);
    tr_i = λ x y h. omega zarith;
    fa_i = λ x y h. omega zarith;
    eq_i = λ x y h. omega zarith;
    eq_o = λ x y h. eq_out x y (omega arith);
    next-is = λ x. omega (arith, pred_is x);
    edge = lo;
    edge_in = record { low = omega zarith; high = omega zarith };
    inner = λ c h. omega zarith;
    order = λ k s t h h'. k.order t s h' h;
    fits = λ a b. record { before = b; behind = a };
    keeps = λ f k x y. k y x;
    near_next = λ n x h. let (p, q) = near_in h in near_out lo hi (suc n) (pred_ℤ x) (omega (arith, pred_is x)) (omega (arith, pred_is x));
    near_even = λ n y h k. near_out lo hi n y (omega arith) (omega zarith);
    tag = below;
    marked = below-mark;
    placed = below_placed;
    stays = not_below;
  }

  -- the upper side for true, the lower for false
  abbrev pub side : Bool → Side lo hi
  side true = upper
  side false = lower

  -- every number lies beyond one of the edges, or inside
  pub data Zone (x : ℤ) : Type 0 where
    beyond : (b : Bool) → T ((side b).less (side b).edge x) → Zone x
    within : Inside lo hi x → Zone x

  pub zone : (x : ℤ) → Zone x
  zone x = go (lt_z hi x) (lt_z x lo) refl refl
    where
      go : (a b : Bool) → lt_z hi x ≡ a → lt_z x lo ≡ b → Zone x
      go true b h k = beyond true (omega zarith)
      go false true h k = beyond false (omega zarith)
      go false false h k = within (record { low = omega zarith; high = omega zarith })

module _ {lo hi : ℤ} (S : Side lo hi) where
  open S use {out, back, less, lt_i, lt_o, tr_i, fa_i, eq_o}

  -- x lies nearer than y
  abbrev pub Nearer : ℤ → ℤ → Type 0
  Nearer x y = out x + back y < out y + back x

  pub same-less : (x y x' y' : ℤ) → (Nearer x y → Nearer x' y') → (Nearer x' y' → Nearer x y) → less x y ≡ less x' y'
  same-less x y x' y' f g = same_test (less x y) (less x' y') (λ t. lt_o x' y' (f (lt_i x y t))) (λ t. lt_o x y (g (lt_i x' y' t)))

  -- x lies nearer than y, is y, or y lies nearer
  pub data Tell (x y : ℤ) : Type 0 where
    far : Nearer x y → Tell x y
    same : x ≡ y → Tell x y
    near : Nearer y x → Tell x y

  pub tell : (x y : ℤ) → Tell x y
  tell x y = go (less x y) (less y x) refl refl
    where
      go : (a b : Bool) → less x y ≡ a → less y x ≡ b → Tell x y
      go true b h k = far (omega (arith, tr_i))
      go false true h k = near (omega (arith, tr_i))
      go false false h k = same (eq_o x y (omega (arith, fa_i)))
