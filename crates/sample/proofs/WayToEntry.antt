-- What `write_sample` asks is what a finished table gives. The way that is traced back from an entry leads there by edges; and if the entry is
-- the first that takes the exit, the way takes as many exits as the exit's distance asks.
use mathlib.Core.Path.{◌≡◌, sym, ap, ◌∙◌, subst}
use mathlib.Core.Bool.{Bool, true}
use mathlib.Core.List.{List}
use Prim.Native.Nat.{ℕ, suc, ◌<◌, ◌≤◌}
use native.Mathlib.Omega.{arith}
use lib.IntN.{ℤ}
use lib.ListN.{length, get_or}
use lib.Signed.{le_z}
use lib.Dec.{T}
use Rattle.model.specs.Language.{Flow, instruction}
use Rattle.model.specs.Machine.{exit_if}
use Rattle.model.specs.Distance.{Distance}
use Rattle.flow.specs.Limits.{least_constant, greatest_constant}
use Rattle.configuration.specs.Inner.Place.{at_of}
use Rattle.configuration.specs.Inner.Op.{op_of}
use Rattle.configuration.specs.Inner.Step.{takes_of}
use Rattle.configuration.specs.Inner.Graph.{op_at}
use Rattle.configuration.specs.declared.Op.{Op}
use Rattle.configuration.specs.declared.Words.{Words}
use Rattle.configuration.specs.Inner.Fits.{FlowFits}
use Rattle.cells.specs.Cells.{most_cells}
use Rattle.cells.specs.Inner.Entries.{Entries, distance_of}
use Rattle.cells.specs.Inner.Way.{Traced}
use Rattle.std.specs.Prelude.{Some}
use Rattle.search_table.specs.Inner.Table.{words_at, Complete}
use Rattle.search_table.specs.Inner.Passes.{Prepared, Walkable, takes_at, FirstIs}
use Rattle.search_table.specs.Inner.Way.{words_on}
use Rattle.search_table.proofs.Way.{way_starts, way_near, way_ends, way_edge, traced_passable}
use Rattle.search_table.proofs.Says.{found_takes, found_distance}
use Rattle.sample.specs.Inner.Sampling.{course, CourseLeads, end_of, Ends}

module _ {lo hi : ℤ} {w : ℕ} {flow : Flow} (f : FlowFits lo hi w flow) {e : Entries} {n : ℕ} (t : Complete lo w flow e n)
    {path : List ℕ} {at last : ℕ} (way : Traced e.parents path n at last) (ops : List Op) where
  pub traced_leads : T (le_z least_constant lo) → T (le_z hi greatest_constant) → Prepared lo flow ops
      → Walkable e.places e.patterns e.distances n → last ≤ most_cells → last < length path
      → CourseLeads (course e.places e.patterns e.distances path last ops w lo hi) flow
  traced_leads low high prepared walk few room = record {
    fit = f;
    low = low;
    high = high;
    prepared = prepared;
    passable = traced_passable walk way few room;
    patterned = λ d l. omega (arith, way.entry d l, walk.pattern_room);
    starts = way_starts t way;
    near = way_near t way;
    edge = way_edge t way;
  }

  -- the entry that `nearest` finds for the exit of instruction i
  pub found_ends : (i : ℕ) (exit : Bool) (op : Op) → op ≡ op_of lo (instruction flow i)
      → FirstIs (takes_at w e.places e.patterns op i (exit_if exit)) n (Some at)
      → Ends (course e.places e.patterns e.distances path last ops w lo hi) flow exit
      × (end_of (course e.places e.patterns e.distances path last ops w lo hi) ≡ i)
  found_ends i exit op is h =
      let (here, takes) = found_takes f t i (exit_if exit) op is at h in
      let end : words_on e path last ≡ words_at e at = way_ends t way in
      let stands : at_of (words_on e path last).place ≡ i = ap (λ (x : Words). at_of x.place) end ∙ here in
      let far : distance_of e at ≡ distance_of e (get_or path last 0) = ap (distance_of e) (sym way.ends) in
      let same : op ≡ op_at lo flow (words_on e path last) = is ∙ ap (λ (j : ℕ). op_of lo (instruction flow j)) (sym stands) in (
        record {
          takes = subst (λ (o : Op). takes_of w o (words_on e path last) (exit_if exit) ≡ true) same
              (subst (λ (x : Words). takes_of w op x (exit_if exit) ≡ true) (sym end) takes);
          distance = subst (λ (j : ℕ). Distance flow j (exit_if exit) (suc (distance_of e (get_or path last 0)))) (sym stands)
              (subst (λ (d : ℕ). Distance flow i (exit_if exit) (suc d)) far (found_distance f t i (exit_if exit) op is at h));
        },
        stands,
      )
