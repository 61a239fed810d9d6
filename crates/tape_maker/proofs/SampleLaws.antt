-- The sample by the code's steps: which instructions have two exits, the table that a finished search leaves, and what is answered.
use mathlib.Core.Path.{◌≡◌, refl, sym, ap, ◌∙◌, subst⁻¹}
use mathlib.Core.Bool.{Bool, true, false}
use mathlib.Core.List.{List, ◌∷◌, map}
use Prim.Native.Nat.{ℕ, zero, suc, ◌-◌, ◌≤◌, ◌<◌}
use native.Mathlib.Omega.{arith}
use lib.IntN.{ℤ}
use lib.ListN.{length, get_or, take, get_or-eq_default, length-map, length-take}
use Rattle.model.specs.Language.{Flow, stop, instruction, has_exits, C1}
use Rattle.model.specs.Machine.{Exit, exit_if}
use Rattle.std.specs.Prelude.{Option, Some, None, Result, Ok, Err, is_err}
use Rattle.flow.specs.Read.{read_flow}
use Rattle.flow.specs.declared.Refusal.{Refusal}
use Rattle.flow.specs.declared.Refusal.TheVariants.{NoSuchExit, TooFewCells}
use Rattle.flow.specs.declared.Instruction.{Instruction as Row}
use Rattle.flow.specs.declared.Flow.{Flow as FlowRows}
use Rattle.flow.specs.Inner.Rows.{instruction_of, flow_of}
use Rattle.cells.specs.Cells.{cells_of, zeroed}
use Rattle.cells.specs.Inner.Columns.{next_field, columns_of}
use Rattle.cells.specs.Inner.Entries.{entries_of}
use Rattle.cells.proofs.Fields.{length-column}
use Rattle.search_table.proofs.Way.{complete-parents}
use Rattle.search.specs.Inner.Search.{Finished}
use Rattle.sample.specs.Inner.Sampling.{Tabled}
use Rattle.sample.specs.Inner.Picking.{PickedIs}
use Rattle.sample.specs.declared.SampleAnswer.{SampleAnswer}
use Rattle.tape_maker.specs.Report.{Outnumber}
use Rattle.tape_maker.specs.Sample.{Wanted, Suffices, Reason, no_such_exit, too_few_cells, short_row, Answered, SampleOf, SampleIs}
use Rattle.tape_maker.specs.Inner.Plan.{exits_at, exits_in, Planned}
use Rattle.tape_maker.specs.declared.planning.Plan.{Plan}
use Rattle.tape_maker.proofs.Tables.{exits-held}
use Rattle.tape_maker.proofs.ReportLaws.{finished-walkable, finished-count, zeroed-after}

-- ---- which instructions have two exits
pub exits_past : (rows : List Row) (count i : ℕ) → count < i → false ≡ exits_at rows count i
exits_past rows count i l =
    ap has_exits (sym (get_or-eq_default (stop ∷ map instruction_of (take count rows)) stop {n = i}
    (omega (arith, length-map (take count rows) instruction_of, length-take count rows))))

pub exits_there : (rows : List Row) (count i : ℕ) (d : Row) → 0 < i → i ≤ count → count ≤ length rows
    → exits_in (get_or rows (i - 1) d) ≡ exits_at rows count i
exits_there rows count zero d a b c = absurd (omega arith)
exits_there rows count (suc i) d a b c =
    let n : suc i - 1 ≡ i = omega arith in ap (λ (j : ℕ). exits_in (get_or rows j d)) n ∙ exits-held rows count i d (omega arith) c

pub flow-exits : (rows : FlowRows) (i : ℕ) {b : Bool} → exits_at rows.instructions rows.count i ≡ b → has_exits (instruction (flow_of rows) i) ≡ b
unfolding flow_of
flow-exits rows i e = e

-- ---- what a finished search leaves in the cells is a table for an exit that is wanted
module _ {flow : Flow} {p : Plan} (plan : Planned flow p) {w : ℕ} (wide : w ≡ p.w) (c : List (List ℕ)) {cells n : ℕ} (f : Finished (C1 flow) w flow (columns_of c) cells n) where
  pub finished_tabled : {i : ℕ} → Wanted flow i → Tabled flow (entries_of (columns_of c)) n (length c) w p.program i
  finished_tabled wanted =
      let x = f.filled.index in
      record {
        legal = plan.legal;
        width = wide ∙ plan.width;
        low = plan.low;
        high = plan.high;
        prepared = plan.prepared;
        complete = f.complete;
        parents = complete-parents f.complete (omega (arith, x.within, x.few)) (omega (arith, x.within, f.filled.parent_room));
        walkable = finished-walkable plan wide f;
        path_room = omega (arith, x.within, x.next_room, length-column next_field c);
        wanted = wanted;
      }

  pub finished-held : Suffices flow cells
  finished-held = record { number = n; count = finished-count plan wide f refl; few = f.within }

-- ---- what is answered for a legal flow
module _ (flow : Flow) (i : ℕ) (e : Exit) (cells : ℕ) (row row' : List ℤ) where
  pub plain_answered : row' ≡ row → has_exits (instruction flow i) ≡ false → Answered flow i e cells row row' (Err NoSuchExit)
  unfolding Answered
  plain_answered same x = (no_such_exit x, same)

  pub full-answered : row' ≡ row → Wanted flow i → Outnumber flow cells → Answered flow i e cells row row' (Err TooFewCells)
  unfolding Answered
  full-answered same w o = (too_few_cells w o, same)

  pub done_answered : Wanted flow i → Suffices flow cells → {tapes : ℕ} → tapes ≡ flow.tapes → (a : Result (Option SampleAnswer) Refusal)
      → PickedIs flow tapes i e row row' a → Answered flow i e cells row row' a
  unfolding PickedIs Answered
  done_answered w held t (Ok (Some r)) (same, written) = record { wanted = w; held = held; tapes = same ∙ t; written = written }
  done_answered w held t (Ok None) (none, same) = record { wanted = w; held = held; none_takes = none; same_row = same }
  done_answered w held t (Err why) (is, short, same) = (subst⁻¹ (λ (x : Refusal). Reason flow i e cells row x) is (short_row w held short), same)

-- the cells afterwards
pub sample-is : (text : List ℕ) (i : ℕ) (exit : Bool) (c c₁ c₂ : List (List ℕ)) (row row' : List ℤ) (a : Result (Option SampleAnswer) Refusal)
    → SampleOf (read_flow text) i (exit_if exit) (cells_of c) row row' a → length c₁ ≡ length c
    → {b : Bool} → b ≡ is_err a → (b ≡ true → c₂ ≡ zeroed c₁) → SampleIs text i exit c c₂ row row' a
sample-is text i exit c c₁ c₂ row row' a h e q z =
    record { answer = h; cells_zero = λ why w. zeroed-after c c₁ c₂ e (z (q ∙ ap is_err w)) }
