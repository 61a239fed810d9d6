-- Reached words stand at an instruction from 1 to 64: the start stands at 1, and each step goes on to a target, which in a legal flow names one
-- of its instructions, or stays. So a pass over the entries of a table finds the instruction of each among the prepared ones.
use mathlib.Core.Path.{◌≡◌, subst}
use mathlib.Core.Bool.{Bool, true, false, cond}
use mathlib.Core.Option.{Option}
use Prim.Native.Nat.{ℕ, ◌≤◌}
use native.Mathlib.Omega.{arith}
use lib.IntN.{ℤ}
use lib.ListN.{length}
use Rattle.graph.specs.Inner.Graph.{Path, here, onward}
use Rattle.graph.proofs.Complete.{entry-path, dist-small}
use Rattle.model.specs.Language.{Flow, instruction}
use Rattle.model.specs.Machine.{Exit}
use Rattle.model.specs.Inner.View.{View, view_at, Targeted}
use Rattle.model.proofs.Runs.{weight-small}
use Rattle.flow.specs.Limits.{max_instructions}
use Rattle.flow.specs.Legal.{Legal}
use Rattle.flow.proofs.Tests.{legal-targets}
use Rattle.configuration.specs.Inner.Place.{at_of}
use Rattle.configuration.specs.Inner.Step.{holds_of, go_on, take_of, next_by, next_of, start_of}
use Rattle.configuration.specs.Inner.Graph.{WordEdge, moves, takes, op_at, word_graph}
use Rattle.configuration.specs.declared.Words.{Words}
use Rattle.configuration.specs.declared.Op.{Op}
use Rattle.configuration.specs.declared.Action.{Action}
use Rattle.configuration.specs.declared.Action.TheVariants.{Read, Assign, Test, Go, Stop}
use Rattle.configuration.proofs.Means.{Means, means_reads, means_sets, means_tests, means_goes, means_stops, means}
use Rattle.configuration.proofs.Places.{at_go, at_finish}
use Rattle.cells.specs.Cells.{most_cells}
use Rattle.cells.specs.Inner.Entries.{Entries}
use Rattle.search_table.specs.Inner.Table.{table_of, Complete}
use Rattle.search_table.specs.Inner.Passes.{Stands, Walkable}

-- the number of an instruction that an array of prepared ones holds
abbrev Named : ℕ → Type 0
Named n = (1 ≤ n) × (n ≤ max_instructions)

-- where a prepared instruction goes on, by its action
abbrev Aimed : Action → Op → Type 0
Aimed Read op = Named op.p × Named op.m
Aimed Assign op = Named op.p
Aimed Test op = Named op.p × Named op.m
Aimed Go op = Named op.p
Aimed Stop op = Unit {0}

aimed : (lo : ℤ) (o : Op) (v : View) → Means lo o v → Targeted Named v → Aimed o.action o
aimed lo o v (means_reads a u p m) h = h
aimed lo o v (means_sets t u n i c k) h = h
aimed lo o v (means_tests s t p m i j c k k') h = h
aimed lo o v (means_goes n) h = h
aimed lo o v means_stops h = tt

stands_at : (place n : ℕ) → at_of place ≡ n → Named n → Stands place
stands_at place n e h = record { first = omega (arith, h.0); last = omega (arith, h.1) }

module _ (w : ℕ) (o : Op) (x : Words) (here : Stands x.place) where
  go_stands : (n : ℕ) → Named n → Stands (go_on x n).place
  unfolding go_on
  go_stands n h = stands_at _ n (at_go x.place n (omega (arith, h.1))) h

  take-stands : (y : ℕ) → Named o.p → Stands (take_of w o x y).place
  unfolding take_of
  take-stands y h = stands_at _ o.p (at_go x.place o.p (omega (arith, h.1))) h

  next-stands : (a : Action) → Aimed a o → Stands (next_by a w o x).place
  next-stands Read (p, m) = stands_at _ o.m (at_finish x.place o.tape o.m (omega (arith, m.1))) m
  next-stands Assign h = take-stands _ h
  next-stands Test (p, m) = by (holds_of w o x)
    where
      by : (b : Bool) → Stands (go_on x (cond b o.p o.m)).place
      by true = go_stands o.p p
      by false = go_stands o.m m
  next-stands Go h = go_stands o.p h
  next-stands Stop h = here

  pub edge-stands : Aimed o.action o → {e : Option Exit} {x' : Words} → WordEdge w o x e x' → Stands x'.place
  unfolding next_of
  edge-stands h moves = next-stands o.action h
  edge-stands h (takes y r q t) = take-stands y (subst (λ (a : Action). Aimed a o) r h).0

module _ {flow : Flow} (l : Legal flow) (lo : ℤ) (w : ℕ) where
  pub path-stands : {n : ℕ} {x : Words} → Path (word_graph lo w flow) n x → Stands x.place
  unfolding word_graph start_of
  path-stands here = stands_at 8 1 (omega arith) (omega arith)
  path-stands (onward {x = x} p e q) =
      let i = at_of x.place in
      let targets = legal-targets Named flow (λ n h. omega (arith, h, l.size)) l i in
      edge-stands w (op_at lo flow x) x (path-stands p) (aimed lo (op_at lo flow x) (view_at flow i) (means lo (instruction flow i)) targets) e

-- a pass can walk the entries of a finished table
pub complete-walkable : {lo : ℤ} {w : ℕ} {flow : Flow} {e : Entries} {n : ℕ} → Legal flow → Complete lo w flow e n → n ≤ most_cells
    → n ≤ length e.places → n ≤ length e.patterns → n ≤ length e.distances → Walkable e.places e.patterns e.distances n
unfolding word_graph table_of
complete-walkable {lo} {w} l t few a b c =
    record {
      few = few;
      place_room = a;
      pattern_room = b;
      distance_room = c;
      stands = λ k h. path-stands l lo w (entry-path t.sound k h);
      near = dist-small t.sound weight-small;
    }
