-- What the choice gives is what the wish asks: it makes room. Whatever the wish is, the record lies at most one outward of what was there.
use mathlib.Core.Path.{◌≡◌, refl, sym, ap, ◌∙◌, subst}
use mathlib.Core.Bool.{Bool, true, false, cond, ◌&&◌}
use mathlib.Core.List.{List, [], ◌∷◌}
use Prim.Native.Nat.{ℕ, zero, suc, ◌≤◌, ◌<◌}
use native.Mathlib.Omega.{arith}
use native.Mathlib.Decide.{dec_lt}
use lib.Dec.{T}
use lib.IntN.{ℤ, pos, negsuc, suc_ℤ, pred_ℤ}
use lib.ListN.{length, get_or, set}
use lib.Signed.{lt_z}
use Rattle.model.specs.Sample.{Near}
use Rattle.model.proofs.Integers.{zarith, eq_out, suc_is, pred_is, add_is}
use Rattle.model.proofs.Lists.{all_get_d, all_set}
use Rattle.model.proofs.Alike.{Alike}
use Rattle.model.proofs.Side.{near-wider, inside-near, upper, lower, side}
use Rattle.model.proofs.Room.{Absent, Top, top, shift, Room, room-term, room-beyond}
use Rattle.model.specs.Inner.Lists.{All}
use Rattle.model.specs.Inner.Integers.{Inside}
use Rattle.model.specs.Inner.View.{held, literal}
use Rattle.model.specs.Inner.Runs.{furthest}
use Rattle.sample_row.specs.Inner.Moves.{further, outward, moved, edge, Movable}
use Rattle.sample_row.specs.Inner.Choices.{first_at, choose_beyond, choose, chosen, move_of, record_of, Safe}
use Rattle.std.specs.Prelude.{Option, Some, None, option_map, unwrap_or}
use Rattle.std.specs.List.{position_or_len}
use Rattle.std.proofs.lemmas.List.Sums.{fails_before_first, passes_at_first}
use Rattle.std.proofs.lemmas.Bool.Decides.{Decides-int_eq}
use borrow.Author.Tests.{lt-ltb, le-ltb}
use Rattle.std.specs.Ordering.{int_eq}
use Rattle.sample_row.specs.declared.Direction.{Direction}
use Rattle.sample_row.specs.declared.Direction.TheVariants.{Up, Down}
use Rattle.sample_row.specs.declared.Choice.{Choice}
use Rattle.sample_row.specs.declared.Choice.TheVariants.{Take, Between}
use Rattle.sample_row.proofs.Arms.{beyond-held, beyond-between, choose-above, choose-below, choose-inside}

-- ---- the two directions are the theory's two sides
abbrev upward : Direction → Bool
upward Up = true
upward Down = false

module _ {lo hi : ℤ} (z : Inside lo hi (pos 0)) where
  next-outward : (out : Direction) (x : ℤ) → (side z (upward out)).next x ≡ outward out x
  next-outward Up x = eq_out (suc_ℤ x) (outward Up x) (omega (arith, suc_is x, add_is x (pos 1)))
  next-outward Down x = eq_out (pred_ℤ x) (outward Down x) (omega (arith, pred_is x, add_is x (negsuc 0)))

  less-further : (out : Direction) → (side z (upward out)).less ≡ further out
  less-further Up = refl
  less-further Down = refl

  shift_moved : (out : Direction) (t : ℤ) → shift (side z (upward out)) t ≡ moved out t
  unfolding shift moved
  shift_moved out t = λ i x. cond (less-further out i t x) (next-outward out x i) x

-- ---- the first place of y
data Place (y : ℤ) (l : List ℤ) : Type 0 where
  there : (j : ℕ) → j < length l → first_at y l ≡ Some j → get_or l j (pos 0) ≡ y → Place y l
  nowhere : first_at y l ≡ None → ((j : ℕ) → j < length l → get_or l j (pos 0) ≡ y → ⊥) → Place y l

place : (y : ℤ) (l : List ℤ) → Place y l
place y l = go (dec_lt n (length l))
  where
    is : ℤ → Bool
    is x = int_eq x y

    n : ℕ
    n = position_or_len is l

    go : Dec (n < length l) → Place y l
    go (yes h) = there n h (rw (lt-ltb n (length l) h)) ((Decides-int_eq (get_or l n (pos 0)) y).0 (passes_at_first is l (pos 0) h))
    go (no h) = nowhere (rw (le-ltb n (length l) (omega arith))) out
      where
        out : (j : ℕ) → j < length l → get_or l j (pos 0) ≡ y → ⊥
        out j k e =
            let holds = (Decides-int_eq (get_or l j (pos 0)) y).1 e in
            let fails = fails_before_first is l j (pos 0) (omega arith) in
            cc

past : (l : List ℤ) (i : ℕ) → length l ≤ i → get_or l i (pos 0) ≡ pos 0
past [] i h = refl
past (x ∷ l) zero h = absurd (omega arith)
past (x ∷ l) (suc i) h = past l i (omega arith)

-- ---- the choice makes room
module _ {lo hi : ℤ} (z : Inside lo hi (pos 0)) {w v : List ℤ} (k : Alike lo hi w v) (y : ℤ) where
  abbrev Makes : Choice → Type 0
  Makes c = Room lo hi w v y (move_of c) (record_of c)

  between_makes : (out : Direction) (t : ℤ) → T ((side z (upward out)).less (side z (upward out)).edge y) → Absent w y → Top (side z (upward out)) (side z (upward out)).edge w v y t
      → Makes (Between out t)
  unfolding move_of record_of
  between_makes out t h none r =
      subst (λ (f : ℤ → ℤ). Room lo hi w v y f (outward out t)) (shift_moved z out t)
      (subst (Room lo hi w v y (shift (side z (upward out)) t)) (next-outward z out t) (room-beyond z k (side z (upward out)) y t h none r))

  -- a y beyond the edge is not 0, so past its end the wish does not hold it
  module _ (out : Direction) (h : T ((side z (upward out)).less (side z (upward out)).edge y)) where
    absent : ((j : ℕ) → j < length w → get_or w j (pos 0) ≡ y → ⊥) → Absent w y
    absent g i e = go (dec_lt i (length w))
      where
        inner : (pos 0 ≡ y) → ⊥
        inner q = let s = side z (upward out) in
            let a = s.lt_i s.edge y h in
            let b = s.inner (pos 0) z in
            let c = s.eq_i (pos 0) y q in
            omega arith

        go : Dec (i < length w) → ⊥
        go (yes b) = g i b e
        go (no b) = inner (sym (past w i (omega arith)) ∙ e)

    beyond_makes : (t : ℤ) → t ≡ furthest (further out) (edge out lo hi) y w v → Top (side z (upward out)) (side z (upward out)).edge w v y t
        → Makes (choose_beyond out (edge out lo hi) y w v)
    unfolding move_of record_of
    beyond_makes t e r = go (place y w)
      where
        go : Place y w → Makes (choose_beyond out (edge out lo hi) y w v)
        go (there j b f q) = subst Makes (beyond-held out (edge out lo hi) y w v j f)
            (subst (λ (x : ℤ). Room lo hi w v x (λ u. u) (get_or v j (pos 0))) q (room-term z k (held j) tt))
        go (nowhere f g) = subst Makes (ap (Between out) e ∙ beyond-between out (edge out lo hi) y w v f)
            (between_makes out t h (absent g) r)

  pub choice_makes : Makes (choose lo hi y w v)
  unfolding move_of record_of
  choice_makes = go (lt_z hi y) (lt_z y lo) refl refl
    where
      go : (a b : Bool) → lt_z hi y ≡ a → lt_z y lo ≡ b → Makes (choose lo hi y w v)
      go true b h e = subst Makes (choose-above lo hi y w v h)
          (beyond_makes Up (omega zarith) (furthest lt_z hi y w v) refl (top (upper z) hi ((upper z).inner (pos 0) z) w v y k.size))
      go false true h e = subst Makes (choose-below lo hi y w v h e)
          (beyond_makes Down (omega zarith) (furthest (further Down) lo y w v) refl (top (lower z) lo ((lower z).inner (pos 0) z) w v y k.size))
      go false false h e =
          subst Makes (choose-inside lo hi y w v h e) (room-term z k (literal y) (record { low = omega zarith; high = omega zarith }))

-- ---- whatever the wish: what holds of all numbers from lo to hi and of all values holds of what is chosen
abbrev Of : (ℤ → Type 0) → Choice → Type 0
Of P (Take x) = P x
Of P (Between out m) = P m

module _ (P : ℤ → Type 0) where
  furthest_of_lem : (less : ℤ → ℤ → Bool) (m x : ℤ) (w v : List ℤ) → P m → All P v → P (furthest less m x w v)
  furthest_of_lem less m x [] v h g = h
  furthest_of_lem less m x (a ∷ w) [] h g = h
  furthest_of_lem less m x (a ∷ w) (b ∷ v) h (g, gs) = furthest_of_lem less (cond (less a x && less m b) b m) x w v (pick (less a x && less m b)) gs
    where
      pick : (c : Bool) → P (cond c b m)
      pick true = g
      pick false = h

  beyond_of : (out : Direction) (e y : ℤ) (w v : List ℤ) → P (pos 0) → P e → All P v → Of P (choose_beyond out e y w v)
  unfolding choose_beyond
  beyond_of out e y w v z h g = go (first_at y w)
    where
      go : (o : Option ℕ) → Of P (unwrap_or (option_map (λ i. Take (get_or v i (pos 0))) o) (Between out (furthest (further out) e y w v)))
      go (Some i) = all_get_d P v i (pos 0) g z
      go None = furthest_of_lem (further out) e y w v h g

  pub choice_of : (lo hi y : ℤ) (w v : List ℤ) → P (pos 0) → P lo → P hi → (Inside lo hi y → P y) → All P v → Of P (choose lo hi y w v)
  unfolding choose
  choice_of lo hi y w v z l h i g = go (lt_z hi y) (lt_z y lo) refl refl
    where
      go : (a b : Bool) → lt_z hi y ≡ a → lt_z y lo ≡ b → Of P (cond a (choose_beyond Up hi y w v) (cond b (choose_beyond Down lo y w v) (Take y)))
      go true b p q = beyond_of Up hi y w v z h g
      go false true p q = beyond_of Down lo y w v z l g
      go false false p q = i (record { low = omega zarith; high = omega zarith })

pub chosen_safe : (lo hi : ℤ) (wish values : List ℤ) (u : ℕ) → Movable lo → Movable hi → All Movable values → Safe (chosen lo hi wish values u)
chosen_safe lo hi wish values u a b g =
    go (chosen lo hi wish values u)
    (choice_of Movable lo hi (get_or wish u (pos 0)) (set wish u (pos 0)) (set values u (pos 0)) zero a b
    (λ i. record { low = omega zarith; high = omega zarith }) (all_set Movable values u (pos 0) g zero))
  where
    zero : Movable (pos 0)
    zero = record { low = tt; high = tt }

    go : (c : Choice) → Of Movable c → Safe c
    go (Take x) h = tt
    go (Between out m) h = h

module _ {lo hi : ℤ} (z : Inside lo hi (pos 0)) (n : ℕ) where
  outward-near : (out : Direction) (x : ℤ) → Near lo hi n x → Near lo hi (suc n) (outward out x)
  outward-near out x h = subst (Near lo hi (suc n)) (next-outward z out x) ((side z (upward out)).near_next n x h)

  pub move_near : (c : Choice) (x : ℤ) → Near lo hi n x → Near lo hi (suc n) (move_of c x)
  unfolding move_of moved
  move_near (Take y) x h = near-wider (suc n) (omega arith) h
  move_near (Between out m) x h = go (further out m x)
    where
      go : (b : Bool) → Near lo hi (suc n) (cond b (outward out x) x)
      go true = outward-near out x h
      go false = near-wider (suc n) (omega arith) h

  pub choice_near : (y : ℤ) (w v : List ℤ) → All (Near lo hi n) v → Near lo hi (suc n) (record_of (choose lo hi y w v))
  unfolding record_of
  choice_near y w v g = go (choose lo hi y w v) (choice_of (Near lo hi n) lo hi y w v (inside-near n z)
      (inside-near n (record { low = omega zarith; high = omega zarith })) (inside-near n (record { low = omega zarith; high = omega zarith }))
      (inside-near n) g)
    where
      go : (c : Choice) → Of (Near lo hi n) c → Near lo hi (suc n) (record_of c)
      go (Take x) h = near-wider (suc n) (omega arith) h
      go (Between out m) h = outward-near out m h
