-- Every path of the graph is a run on some tapes. The run stands where the path stands, its values having the path's pattern. At an edge that reads
-- no record the run makes the same step. At one that reads a record, let w be any valuation of the next pattern, the *wish*: apart from
-- the lane that is read, w and the values are alike, so there is room for a record that does to the values what w has in that lane.
use mathlib.Core.Path.{◌≡◌, refl, sym, ap, ◌∙◌, subst, subst₂}
use mathlib.Core.Bool.{false}
use mathlib.Core.List.{List, [], map}
use mathlib.Core.Option.{Option, some}
use Prim.Native.Nat.{ℕ, suc, ◌+◌}
use lib.IntN.{ℤ, pos}
use lib.ListN.{get_or, set, replicate}
use lib.Seq.{set-set, set-get_or}
use Rattle.graph.specs.Inner.Graph.{Path, here as begin, onward}
use Rattle.model.specs.Language.{Flow}
use Rattle.model.specs.Machine.{State, Exit, p_exit, step, exit_of}
use Rattle.model.specs.Pattern.{Mark, pattern}
use Rattle.model.specs.Configuration.{Configuration, configuration}
use Rattle.model.specs.Distance.{weight, StepTakes}
use Rattle.model.specs.Sample.{Near}
use Rattle.model.proofs.Lists.{all_set, set-map}
use Rattle.model.proofs.Alike.{Alike, alike_sym, alike_trans, alike_set, fits_term}
use Rattle.model.proofs.Side.{spread, inside-near}
use Rattle.model.proofs.Ranks.{pattern-alike, alike_spread, alike-pattern}
use Rattle.model.proofs.Room.{Room, room}
use Rattle.model.proofs.Runs.{append}
use Rattle.model.proofs.Graph.{trial, fed_with, Edge, still, fed, origin, configurations, silent_resting, silent_step}
use Rattle.model.proofs.Follow.{stands-start, stands_silent, takes_silent, takes_fed, stands_fed}
use Rattle.model.specs.Inner.Integers.{Inside}
use Rattle.model.specs.Inner.View.{reads, view_at, literal, lane_value, LegalFlow}
use Rattle.model.specs.Inner.Runs.{resting, RunStands, Follows}

-- with f and x, lane u of the values v becomes what it is in w
abbrev pub Grants : (lo hi : ℤ) → ℕ → (w v : List ℤ) → (ℤ → ℤ) → ℤ → Type 0
Grants lo hi u w v f x = Room lo hi (set w u (pos 0)) (set v u (pos 0)) (lane_value w u) f x

module _ {lo hi : ℤ} (z : Inside lo hi (pos 0)) (u : ℕ) where
  erased : {v w : List ℤ} → Alike lo hi v w → Alike lo hi (set v u (pos 0)) (set w u (pos 0))
  erased k = alike_set u k (fits_term (literal (pos 0)) z k)

  granted : (w v : List ℤ) (f : ℤ → ℤ) (x : ℤ) → Grants lo hi u w v f x → Alike lo hi w (set (map f v) u x)
  granted w v f x q =
      let left : set (set w u (pos 0)) u (lane_value w u) ≡ w = set-set w u (pos 0) (lane_value w u) ∙ set-get_or w u (pos 0) in
      let right : set (map f (set v u (pos 0))) u x ≡ set (map f v) u x
      = ap (λ (r : List ℤ). set r u x) (sym (set-map f v u (pos 0))) ∙ set-set (map f v) u (f (pos 0)) x in
      subst (λ (r : List ℤ). Alike lo hi r (set (map f v) u x)) left
      (subst (λ (r : List ℤ). Alike lo hi (set (set w u (pos 0)) u (lane_value w u)) r) right (alike_set u q.alike q.fits))

module _ {lo hi : ℤ} {flow : Flow} (l : LegalFlow lo hi flow) where
  pub follows-start : Follows lo hi flow 0 0 0 (replicate flow.tapes []) (replicate flow.variables (pos 0)) (origin lo hi flow)
  follows-start = record { stands = stands-start l; marks = refl }

  module _ {n d r : ℕ} {tapes : List (List ℤ)} {v : List ℤ} {c : Configuration} (q : Follows lo hi flow n d r tapes v c) where
    abbrev pub here : State
    here = resting flow c.next v c.ended

    abbrev pub follows_after : State
    follows_after = step flow here

    same : configuration lo hi here ≡ c
    same = ap (λ (m : List Mark). record { next = c.next; ended = c.ended; marks = m }) q.marks

    -- an edge that reads no record: the tapes stay, the values are those of the run's own step
    silent : (exit_of flow (trial lo hi flow (configuration lo hi here)) ≡ exit_of flow here)
        × (configuration lo hi (step flow (trial lo hi flow (configuration lo hi here))) ≡ configuration lo hi follows_after)
    silent = silent_step l here (silent_resting flow (view_at flow c.next) c.next v c.ended)

    taken : exit_of flow here ≡ exit_of flow (trial lo hi flow c)
    taken = sym silent.0 ∙ ap (λ (b : Configuration). exit_of flow (trial lo hi flow b)) same

    pub follows_still : Follows lo hi flow (suc n) (d + weight (exit_of flow (trial lo hi flow c))) r tapes follows_after.variables
        (configuration lo hi (step flow (trial lo hi flow c)))
    follows_still =
        let goes : configuration lo hi follows_after ≡ configuration lo hi (step flow (trial lo hi flow c))
        = sym silent.1 ∙ ap (λ (b : Configuration). configuration lo hi (step flow (trial lo hi flow b))) same in
        record {
          stands = subst₂ (λ (o : Option Exit) (b : Configuration). RunStands lo hi flow (suc n) (d + weight o) r tapes b.next follows_after.variables b.ended)
              taken goes (stands_silent l q.stands);
          marks = ap (λ (b : Configuration). b.marks) goes;
        }

    pub takes_still : (x : Exit) → exit_of flow (trial lo hi flow c) ≡ some x → StepTakes flow tapes c.next x (suc n)
    takes_still x h = takes_silent l q.stands x (taken ∙ h)

    -- an edge that reads a record into lane u: apart from that lane, any wish w of its pattern is alike to the values
    module _ (u p : ℕ) (y : ℤ) (w : List ℤ) (e : pattern lo hi w ≡ (fed_with lo hi u p y c).marks) where
      pub wish_like : Alike lo hi (set w u (pos 0)) (set v u (pos 0))
      wish_like =
          let sv = spread lo hi c.marks in
          let k : Alike lo hi sv v = subst (λ (m : List Mark). Alike lo hi (spread lo hi m) v) q.marks (alike_sym (alike_spread l.zero v)) in
          let j : Alike lo hi w (set sv u y) = alike-pattern l.zero e in
          alike_trans (subst (λ (t : List ℤ). Alike lo hi (set w u (pos 0)) t) (set-set sv u y (pos 0)) (erased l.zero u j)) (erased l.zero u k)

      -- and a record that grants it follows the edge
      pub follows_fed : (a m : ℕ) → view_at flow c.next ≡ reads a u p m → get_or c.ended a false ≡ false
          → (f : ℤ → ℤ) (x : ℤ) → Grants lo hi u w v f x
          → Follows lo hi flow (suc n) (d + 1) (suc r) (append (map (map f) tapes) a x) (set (map f v) u x) (fed_with lo hi u p y c)
      follows_fed a m i o f x g =
          let near = g.new-near r (all_set (Near lo hi r) v u (pos 0) q.stands.values_near (inside-near r l.zero)) in
          record {
            stands = stands_fed l q.stands a u p m i o f g.faithful x g.near near;
            marks = sym (pattern-alike l.zero (granted l.zero u w v f x g)) ∙ e;
          }

-- ---- some run that stands at c after d exits
pub record Real (lo hi : ℤ) (flow : Flow) (d : ℕ) (c : Configuration) : Type 0 where
  pub steps : ℕ
  pub r : ℕ
  pub tapes : List (List ℤ)
  pub values : List ℤ
  pub follows : Follows lo hi flow steps d r tapes values c

module _ {lo hi : ℤ} {flow : Flow} (l : LegalFlow lo hi flow) where
  pub extend : (d : ℕ) (c c' : Configuration) (o : Option Exit) → Real lo hi flow d c → Edge lo hi flow c o c'
      → (q : Real lo hi flow (d + weight o) c') × ((x : Exit) → o ≡ some x → StepTakes flow q.tapes c.next x q.steps)
  extend d c c' o q still = (
    record {
      steps = suc q.steps;
      r = q.r;
      tapes = q.tapes;
      values = (follows_after l q.follows).variables;
      follows = follows_still l q.follows;
    },
    takes_still l q.follows,
  )
  extend d c c' o q (fed a u p m y i open_still near) =
      let w = set (spread lo hi c.marks) u y in
      let (f, x, g) = room l.zero (wish_like l q.follows u p y w refl) (lane_value w u) in
      let takes = takes_fed l q.follows.stands a u p m i open_still f g.faithful x in
      let tapes = append (map (map f) q.tapes) a x in
      let follows = follows_fed l q.follows u p y w refl a m i open_still f x g in (
        record { steps = suc q.steps; r = suc q.r; tapes = tapes; values = set (map f q.values) u x; follows = follows },
        λ e h. subst (λ (e : Exit). StepTakes flow tapes c.next e (suc q.steps)) (is-p e h) takes,
      )
    where
      is-p : (e : Exit) → some p_exit ≡ some e → p_exit ≡ e
      is-p e h = cc

  pub realise : {d : ℕ} {c : Configuration} → Path (configurations lo hi flow) d c → Real lo hi flow d c
  realise begin =
      record { steps = 0; r = 0; tapes = replicate flow.tapes []; values = replicate flow.variables (pos 0); follows = follows-start l }
  realise (onward {n = d} {x = c} {y = c'} {l = o} p y e) = subst (λ (k : ℕ). Real lo hi flow k c') (sym e) (extend d c c' o (realise p) y).0
