-- The report by the code's steps: what a plan is searched by, what a finished search gives, and what is answered.
use mathlib.Core.Path.{◌≡◌, refl, sym, ap, ◌∙◌, subst, subst⁻¹}
use mathlib.Core.Bool.{Bool, true, false}
use mathlib.Core.List.{List, map}
use Prim.Native.Nat.{ℕ, suc, ◌≤◌}
use native.Mathlib.Omega.{arith}
use lib.ListN.{length, get_or, take, replicate, length-map, get_or-map}
use lib.Seq.{get_or-take, length-take-le}
use Rattle.graph.proofs.Counting.{listed}
use Rattle.model.specs.Language.{Instruction, stop, Flow, fields, has_exits, C1, C2}
use Rattle.flow.specs.Limits.{max_instructions}
use Rattle.std.specs.Prelude.{Option, Some, None, Result, is_err}
use Rattle.flow.specs.Read.{all, in_range, is_named, read_flow}
use Rattle.flow.specs.Code.{row_of}
use Rattle.flow.specs.Legal.{Legal, head}
use Rattle.flow.specs.declared.Refusal.{Refusal}
use Rattle.flow.specs.declared.Flow.{Flow as FlowRows}
use Rattle.flow.specs.Inner.Rows.{instruction_of, flow_of}
use Rattle.configuration.specs.Inner.Op.{op_of}
use Rattle.pattern_word.specs.Inner.Pattern.{Width}
use Rattle.configuration.specs.Inner.Place.{configuration_of}
use Rattle.configuration.specs.Inner.Step.{start_of}
use Rattle.configuration.specs.declared.Op.{Op}
use Rattle.configuration.proofs.Fitting.{fit-legal}
use Rattle.configuration.proofs.Prepared.{legal-bytes}
use Rattle.configuration.specs.Inner.Fits.{FlowFits}
use Rattle.cells.specs.Cells.{cell_words, cells_of, zeroed}
use Rattle.cells.specs.Inner.Columns.{Rows}
use Rattle.cells.specs.Inner.Entries.{entries_of}
use Rattle.search_table.specs.Inner.Table.{words_at}
use Rattle.search_table.specs.Inner.Passes.{blank, Prepared, Walkable, ExitsOf}
use Rattle.search_table.specs.declared.Distances.{Distances}
use Rattle.search_table.proofs.Words.{outnumbered, complete-census, length-complete}
use Rattle.search_table.proofs.ReachedPlaces.{complete-walkable}
use Rattle.search_table.proofs.Says.{column_says}
use Rattle.search.specs.Inner.Search.{Subject, Finished, SearchedIs}
use Rattle.tape_maker.specs.Report.{Outnumber, Count, Reported, ReportOf, ReportIs}
use Rattle.tape_maker.specs.Inner.Plan.{AllFitBytes, Each, Planned}
use Rattle.tape_maker.specs.declared.ReportAnswer.{ReportAnswer}
use Rattle.tape_maker.specs.declared.planning.Plan.{Plan}

-- what the array of prepared instructions holds
pub rows-prepared : (held : FlowRows) {ops : List Op}
    → Each (op_of (C1 (flow_of held))) blank held.instructions held.count ops → Prepared (C1 (flow_of held)) (flow_of held) ops
unfolding flow_of
rows-prepared held e = record { each = λ i l. e.at i l }

-- the numbers that count fit a byte
pub rows-bytes : (held : FlowRows) → Legal (flow_of held) → AllFitBytes held.instructions held.count
unfolding flow_of
rows-bytes held legal i l =
    let flow = flow_of held in
    let is = get_or-map instruction_of (take held.count held.instructions) i (row_of stop)
    ∙ ap instruction_of (get_or-take held.count held.instructions i (row_of stop) l) in
    legal-bytes (head flow) (record { tapes = legal.tapes; outputs = legal.outputs; variables = legal.variables }) (length flow.instructions) legal.size.1
    (get_or held.instructions i (row_of stop))
    (subst (λ (x : Instruction). all (in_range (head flow)) (fields x) ≡ true) is (legal.ranges (suc i)))
    (subst (λ (x : Instruction). all (is_named (length flow.instructions)) (fields x) ≡ true) is (legal.targets (suc i)))

-- ---- what a search of a planned flow finds
module _ {flow : Flow} {p : Plan} (plan : Planned flow p) {w : ℕ} (wide : w ≡ p.w) where
  pub fits : FlowFits (C1 flow) (C2 flow) w flow
  fits = subst⁻¹ (λ (n : ℕ). FlowFits (C1 flow) (C2 flow) n flow) (wide ∙ plan.width) (fit-legal flow plan.legal)

  abbrev subject : Subject w p.program.ops
  subject = record { lo = C1 flow; hi = C2 flow; flow = flow; legal = plan.legal; fit = fits; prepared = plan.prepared }

  pub plan_subject : (s : Subject w p.program.ops) × (p.start ≡ start_of s.lo)
  plan_subject = (subject, plan.begins)

  module _ {r : Rows} {cells n : ℕ} (f : Finished (C1 flow) w flow r cells n) where
    pub finished-walkable : Walkable r.places r.patterns r.distances n
    finished-walkable =
        let i = f.filled.index in
        complete-walkable plan.legal f.complete (omega (arith, i.within, i.few)) (omega (arith, i.within, i.place_room))
        (omega (arith, i.within, i.pattern_room))
        (omega (arith, i.within, f.filled.distance_room))

    -- the entries are the reachable configurations
    pub finished-count : {m : ℕ} → n ≡ m → Count flow m
    finished-count e =
        record {
          list = map (configuration_of (C1 flow) w flow) (listed (words_at (entries_of r)) n);
          census = complete-census fits f.complete;
          is = length-complete fits f.complete ∙ e;
        }

  -- the promise of a search
  module _ (r : Rows) {cells : ℕ} {found : Option ℕ}
      (x : (s : Subject w p.program.ops) → p.start ≡ start_of s.lo → SearchedIs s.lo w s.flow r cells found) where
    pub search_done : {n : ℕ} → found ≡ Some n → Finished (C1 flow) w flow r cells n
    unfolding SearchedIs
    search_done e = subst (λ (y : Option ℕ). SearchedIs (C1 flow) w flow r cells y) e (x subject plan.begins)

    pub search_full : found ≡ None → Outnumber flow cells
    unfolding SearchedIs
    search_full e = outnumbered fits cells (subst (λ (y : Option ℕ). SearchedIs (C1 flow) w flow r cells y) e (x subject plan.begins))

pub plan_wide : {flow : Flow} {p : Plan} → Planned flow p → Width p.w
plan_wide plan = (fits plan refl).span.width

-- ---- a finished table gives the report
pub given_reported : (held : FlowRows) {p : Plan} (plan : Planned (flow_of held) p) {w : ℕ} (wide : w ≡ p.w) → held.count ≤ max_instructions
    → length held.instructions ≡ max_instructions → {cells : ℕ} {r : Rows} {n : ℕ} → Finished (C1 (flow_of held)) w (flow_of held) r cells n
    → (d : Distances) → ExitsOf w r.places r.patterns r.distances n p.program.ops d
    → (two : List Bool) → Each has_exits false held.instructions held.count two
    → Reported (flow_of held) cells (record { instructions = held.count; configurations = n; two = two; p = d.p; m = d.m })
unfolding flow_of
given_reported held plan wide few long f d e two t =
    record {
      instructions = sym (length-take-le held.count held.instructions (omega (arith, few, long)))
          ∙ sym (length-map (take held.count held.instructions) instruction_of);
      count = finished-count plan wide f refl;
      few = f.within;
      two = λ i b. t.at i b;
      p = λ i b. column_says (fits plan wide) f.complete plan.prepared e.p i b;
      m = λ i b. column_says (fits plan wide) f.complete plan.prepared e.m i b;
    }

-- ---- the cells afterwards
-- cells that were changed and then zeroed are zeroed
pub zeroed-after : (c c₁ c₂ : List (List ℕ)) → length c₁ ≡ length c → c₂ ≡ zeroed c₁ → c₂ ≡ zeroed c
zeroed-after c c₁ c₂ e z = z ∙ ap (λ (n : ℕ). replicate n (replicate cell_words 0)) e

pub report_is : (text : List ℕ) (c c₁ c₂ : List (List ℕ)) (a : Result ReportAnswer Refusal) → ReportOf (read_flow text) (cells_of c) a
    → length c₁ ≡ length c → {b : Bool} → b ≡ is_err a → (b ≡ true → c₂ ≡ zeroed c₁) → ReportIs text c c₂ a
report_is text c c₁ c₂ a h e q z =
    record { answer = h; cells_zero = λ why w. zeroed-after c c₁ c₂ e (z (q ∙ ap is_err w)) }
