-- One step of a path, from the graph to the row. The run on the tapes written so far stands at the path's configuration, with the
-- values of the walk. An edge that reads no record changes the values as the instruction says. An edge that takes p of a read is
-- followed by `Walk::read`, if the wish has the pattern of the edge's end.
use mathlib.Core.Path.{◌≡◌, refl, sym, ap, ◌∙◌, subst}
use mathlib.Core.Bool.{Bool, false}
use mathlib.Core.List.{List, [], map}
use mathlib.Core.Option.{Option, some}
use Prim.Native.Nat.{ℕ, suc, ◌+◌, ◌*◌, ◌≤◌, ◌<◌}
use native.Mathlib.Omega.{arith}
use lib.IntN.{ℤ, pos}
use lib.ListN.{length, get_or, set, replicate}
use Rattle.model.specs.Language.{Flow}
use Rattle.model.specs.Machine.{State, Exit, p_exit, m_exit, exit_if, has_record, step, exit_of}
use Rattle.model.specs.Distance.{weight, StepTakes}
use Rattle.model.specs.Pattern.{Mark, pattern}
use Rattle.model.specs.Configuration.{Configuration}
use Rattle.model.specs.Sample.{Near}
use Rattle.model.proofs.Lists.{all_replicate, get_d_like}
use Rattle.model.proofs.View.{step_view, exit_view, step-view, exit_view_lem}
use Rattle.model.proofs.Side.{spread, inside-near}
use Rattle.model.proofs.Ranks.{pattern-alike, alike_spread}
use Rattle.model.proofs.Alike.{Alike, alike_set, fits_term}
use Rattle.model.proofs.Runs.{append}
use Rattle.model.proofs.Graph.{trial, fed_with, Edge, still, fed, origin}
use Rattle.model.proofs.Follow.{takes_fed}
use Rattle.model.proofs.Path.{Grants, follows-start, follows_still, takes_still, wish_like, follows_fed}
use Rattle.model.specs.Tapes.{total}
use Rattle.model.specs.Inner.Lists.{All}
use Rattle.model.specs.Inner.Integers.{Inside}
use Rattle.model.specs.Inner.View.{literal, View, reads, sets, tests, goes, stops, view_at, lane_value, LegalFlow}
use Rattle.model.specs.Inner.Runs.{resting, Follows, wider}
use Rattle.sample_row.specs.Inner.Layout.{tapes_at}
use Rattle.sample_row.specs.Inner.Choices.{chosen, move_of, record_of}
use Rattle.sample_row.specs.Inner.Reading.{first_walk, tapes_written, walk_after, row_after, silent_values}
use Rattle.sample_row.specs.Inner.WalkFits.{Bounded, WalkFits}
use Rattle.sample_row.specs.declared.Choice.{Choice}
use Rattle.sample_row.specs.declared.Walk.{Walk}
use Rattle.sample_row.proofs.ChoiceLaws.{choice_makes}
use Rattle.sample_row.proofs.Sized.{laid-first}
use Rattle.sample_row.proofs.WalkInvariant.{read-tapes}

-- ---- edges by what they read

-- c' comes after c by the record y into lane u, on to p, from tape a, whose end was not met
pub record Fed (lo hi : ℤ) (c c' : Configuration) (a u p : ℕ) : Type 0 where
  pub y : ℤ
  pub open_still : get_or c.ended a false ≡ false
  pub is : fed_with lo hi u p y c ≡ c'

-- an exit by which no record is read
abbrev pub SilentStep : View → Option Exit → Type 0
SilentStep (reads a v p m) o = o ≡ some m_exit
SilentStep (sets t v n) o = Unit {0}
SilentStep (tests x y p m) o = Unit {0}
SilentStep (goes n) o = Unit {0}
SilentStep stops o = Unit {0}

module _ (lo hi : ℤ) (flow : Flow) where
  fed_edge : (c c' : Configuration) (o : Option Exit) → Edge lo hi flow c o c' → o ≡ some p_exit
      → (a u p m : ℕ) → view_at flow c.next ≡ reads a u p m → Fed lo hi c c' a u p
  fed_edge c c' o still e a u p m i =
      let t = trial lo hi flow c in
      let q : exit_of flow t ≡ some m_exit = exit_view_lem flow t ∙ ap (λ (w : View). exit_view w t) i
      ∙ ap (λ (l : List ℤ). some (exit_if (has_record l))) (get_d_like {A = List ℤ} flow.tapes a []) in
      let z : ◌≡◌ {A = ℕ} 0 1 = cc in
      absurd (omega arith)
  fed_edge c c' o (fed a' u' p' m' y j open_still near) e a u p m i =
      let qa : a' ≡ a = cc in
      let qu : u' ≡ u = cc in
      let qp : p' ≡ p = cc in
      record {
        y = y;
        open_still = subst (λ (b : ℕ). get_or c.ended b false ≡ false) qa open_still;
        is = λ k. fed_with lo hi (sym qu k) (sym qp k) y c;
      }

  values_after : (w : View) (k : ℕ) (v : List ℤ) (e : List Bool) → (step_view w (resting flow k v e)).variables ≡ silent_values w v
  values_after (reads a u p m) k v e = rw (get_d_like {A = List ℤ} flow.tapes a []) refl
  values_after (sets t u n) k v e = refl
  values_after (tests x y p m) k v e = refl
  values_after (goes n) k v e = refl
  values_after stops k v e = refl

-- ---- the start
none_written : (sizes : List ℕ) (row : List ℤ) → tapes_written (first_walk sizes) row ≡ replicate 3 []
unfolding tapes_at
none_written sizes row = refl

pub fit-first : {lo hi : ℤ} → Inside lo hi (pos 0) → (sizes : List ℕ) (row : List ℤ) → length sizes ≡ 3 → Bounded lo hi (total sizes)
    → total sizes ≤ length row → WalkFits lo hi sizes (first_walk sizes) row
unfolding total
fit-first {lo} {hi} z sizes row h b n = record {
  bounded = b;
  laid = laid-first sizes h;
  long = n;
  near = subst (All (All (Near lo hi 0))) (sym (none_written sizes row)) (all_replicate (All (Near lo hi 0)) 3 [] tt);
  values_near = all_replicate (Near lo hi 0) 4 (pos 0) (inside-near 0 z);
  three = refl;
  four = refl;
}

-- with four variables and three tapes, whatever the flow names
pub follows-first : {lo hi : ℤ} (flow : Flow) → LegalFlow lo hi (wider 3 4 flow) → (sizes : List ℕ) (row : List ℤ)
    → Follows lo hi (wider 3 4 flow) 0 0 0 (tapes_written (first_walk sizes) row) (first_walk sizes).values (origin lo hi (wider 3 4 flow))
follows-first {lo} {hi} flow l sizes row =
    let wide = wider 3 4 flow in
    subst (λ (ts : List (List ℤ)). Follows lo hi wide 0 0 0 ts (first_walk sizes).values (origin lo hi wide)) (sym (none_written sizes row))
    (follows-start l)

-- ---- a step
module _ {lo hi : ℤ} {flow : Flow} (l : LegalFlow lo hi flow) where
  -- an edge that reads no record
  module _ {n d r : ℕ} {tapes : List (List ℤ)} {v : List ℤ} {c : Configuration} (q : Follows lo hi flow n d r tapes v c) where
    pub follows_silent : (c' : Configuration) (o : Option Exit) → Edge lo hi flow c o c' → SilentStep (view_at flow c.next) o
        → Follows lo hi flow (suc n) (d + weight o) r tapes (silent_values (view_at flow c.next) v) c'
        × ((x : Exit) → o ≡ some x → StepTakes flow tapes c.next x (suc n))
    follows_silent c' o still s = (
      subst (λ (u : List ℤ). Follows lo hi flow (suc n) (d + weight o) r tapes u c') same (follows_still l q),
      takes_still l q,
    )
      where
        here : State
        here = resting flow c.next v c.ended

        same : (step flow here).variables ≡ silent_values (view_at flow c.next) v
        same = ap (λ (t : State). t.variables) (step-view flow here) ∙ values_after lo hi flow (view_at flow c.next) c.next v c.ended
    follows_silent c' o (fed a u p m y i open_still near) s =
        let e : some p_exit ≡ some m_exit = subst (λ (w : View). SilentStep w (some p_exit)) i s in
        let z : ◌≡◌ {A = ℕ} 0 1 = cc in
        absurd (omega arith)

    -- the plainest record that takes p of a read is 0: an edge, and a wish of its pattern
    pub zero-edge : (a u p m : ℕ) → view_at flow c.next ≡ reads a u p m → get_or c.ended a false ≡ false
        → Edge lo hi flow c (some p_exit) (fed_with lo hi u p (pos 0) c)
    zero-edge a u p m i o = fed a u p m (pos 0) i o (inside-near (suc (2 * length c.marks)) l.zero)

    pub zero_wish : (u p : ℕ) → pattern lo hi (set v u (pos 0)) ≡ (fed_with lo hi u p (pos 0) c).marks
    zero_wish u p =
        let like : Alike lo hi v (spread lo hi c.marks)
        = subst (λ (m : List Mark). Alike lo hi v (spread lo hi m)) q.marks (alike_spread l.zero v) in
        pattern-alike l.zero (alike_set u like (fits_term (literal (pos 0)) l.zero like))

  -- an edge that takes p of a read
  module _ {n d r : ℕ} {sizes : List ℕ} {walk : Walk} {row : List ℤ} {c : Configuration} (fit : WalkFits lo hi sizes walk row)
      (q : Follows lo hi flow n d r (tapes_written walk row) walk.values c) (a u p m : ℕ) (i : view_at flow c.next ≡ reads a u p m)
      (known : a < 3) (free : get_or walk.counts a 0 < get_or sizes a 0) (w : List ℤ) where
    abbrev ch : Choice
    ch = chosen lo hi w walk.values u

    abbrev tapes' : List (List ℤ)
    tapes' = tapes_written (walk_after ch a u walk) (row_after ch a walk row)

    same : tapes' ≡ append (map (map (move_of ch)) (tapes_written walk row)) a (record_of ch)
    same = read-tapes fit ch a u known free

    module _ (c' : Configuration) (x : Edge lo hi flow c (some p_exit) c') (e : pattern lo hi w ≡ c'.marks) where
      by : Fed lo hi c c' a u p
      by = fed_edge lo hi flow c c' (some p_exit) x refl a u p m i

      wish : pattern lo hi w ≡ (fed_with lo hi u p by.y c).marks
      wish = e ∙ ap (λ (d : Configuration). d.marks) (sym by.is)

      grants : Grants lo hi u w walk.values (move_of ch) (record_of ch)
      grants = choice_makes l.zero (wish_like l q u p by.y w wish) (lane_value w u)

      pub follows-read : Follows lo hi flow (suc n) (d + 1) (suc r)
          (tapes_written (walk_after (chosen lo hi w walk.values u) a u walk) (row_after (chosen lo hi w walk.values u) a walk row))
          (walk_after (chosen lo hi w walk.values u) a u walk).values c'
      follows-read =
          subst (Follows lo hi flow (suc n) (d + 1) (suc r) tapes' (walk_after ch a u walk).values) by.is
          (subst (λ (ts : List (List ℤ)). Follows lo hi flow (suc n) (d + 1) (suc r) ts (walk_after ch a u walk).values (fed_with lo hi u p by.y c))
          (sym same)
          (follows_fed l q u p by.y w wish a m i by.open_still (move_of ch) (record_of ch) grants))

      pub takes-read : StepTakes flow
          (tapes_written (walk_after (chosen lo hi w walk.values u) a u walk) (row_after (chosen lo hi w walk.values u) a walk row))
          c.next p_exit (suc n)
      takes-read =
          subst (λ (ts : List (List ℤ)). StepTakes flow ts c.next p_exit (suc n)) (sym same)
          (takes_fed l q.stands a u p m i by.open_still (move_of ch) grants.faithful (record_of ch))
