-- The search of a flow. An entry's words are reached, so they are proper, and its prepared instruction is that of the flow; what its expansion
-- adds is led to by its edges, so the invariant of a search in the order of distance is kept, and where no cell is left more is reached than fits.
use mathlib.Core.Path.{◌≡◌, refl, sym, ap, ◌∙◌, subst, subst₂}
use mathlib.Core.Bool.{true, false}
use mathlib.Core.List.{List}
use Prim.Native.Nat.{ℕ, suc, ◌+◌, ◌<◌, ◌≤◌}
use native.Mathlib.Omega.{arith}
use lib.IntN.{ℤ}
use Rattle.std.specs.Prelude.{Option, Some, None}
use lib.ListN.{length, get_or}
use Rattle.graph.specs.Lists.{MoreThan}
use Rattle.graph.specs.Inner.Graph.{Reached}
use Rattle.graph.proofs.Complete.{entry-path, entry_induction, dist-small}
use Rattle.graph.proofs.Search.{Turn, search_start, turn_stored, turn_grown, turned, finish}
use Rattle.graph.specs.Inner.Table.{none}
use Rattle.graph.proofs.Table.{grows_extends, grows-wider}
use Rattle.graph.proofs.Refusal.{start_outnumber, full_outnumber}
use Rattle.model.specs.Language.{Flow, instruction}
use Rattle.model.proofs.Runs.{weight-small}
use Rattle.flow.specs.Limits.{max_instructions}
use Rattle.flow.specs.Legal.{Legal}
use Rattle.configuration.specs.Inner.Place.{at_of}
use Rattle.configuration.specs.Inner.Op.{op_of}
use Rattle.configuration.specs.Inner.Step.{weight_of, goes_on_by, goes_on_of, start_of}
use Rattle.configuration.specs.Inner.Graph.{op_at, word_graph}
use Rattle.configuration.specs.declared.Words.{Words}
use Rattle.configuration.specs.declared.Op.{Op}
use Rattle.configuration.specs.declared.Action.{Action}
use Rattle.configuration.specs.declared.Action.TheVariants.{Read, Assign, Test, Go, Stop}
use Rattle.configuration.proofs.Edges.{read-lane, edge-proper}
use Rattle.configuration.proofs.WordExits.{edge-weight, free_stays}
use Rattle.configuration.proofs.Reaches.{start-proper}
use Rattle.configuration.specs.Inner.Fits.{FlowFits, ProperWords}
use Rattle.cells.specs.Cells.{most_cells, cells_of}
use Rattle.cells.specs.Inner.Columns.{marks_field, column, Rows, columns_of}
use Rattle.cells.specs.Inner.Index.{node}
use Rattle.cells.specs.Inner.Entries.{entries_of, distance_of, Begun}
use Rattle.cells.specs.Inner.Marks.{is_marked}
use Rattle.cells.proofs.Fields.{length-column}
use Rattle.cells.proofs.Entering.{filled-room}
use Rattle.search_table.specs.Inner.Table.{words_at, table_of}
use Rattle.search_visit.specs.Inner.Visit.{Outgrown, Kept}
use Rattle.search_visit.specs.Inner.Fan.{Marked, SearchReady, LeadsTo, opens_by, opens_of, FanFits, GrownIs}
use Rattle.search_table.specs.Inner.Passes.{blank, Prepared, Stands}
use Rattle.search_table.proofs.ReachedPlaces.{path-stands}
use Rattle.search.specs.Inner.Search.{LeadsAt, ExpandedIs, Exploring, Finished, SearchedIs}
use Rattle.search_visit.proofs.Growing.{outgrown_wider, kept-none}
use Rattle.search_visit.proofs.Visiting.{node-words}
use Rattle.search_visit.proofs.Marks.{true_false}

-- ---- the instruction of a place, as the walk picks it
pub picked : {lo : ℤ} {flow : Flow} {ops : List Op} → Prepared lo flow ops → (place i : ℕ) → at_of place ≡ i + 1 → i < max_instructions
    → get_or ops i blank ≡ op_of lo (instruction flow (at_of place))
picked {lo} {flow} p place i e l =
    let s : suc i ≡ at_of place = omega arith in
    p.each i l ∙ ap (λ (n : ℕ). op_of lo (instruction flow n)) s

-- a step that goes on without an exit reads no record
pub goes_on_shut : (op : Op) (x : Words) → goes_on_of op ≡ true → opens_of op x ≡ false
unfolding goes_on_of opens_of
goes_on_shut op x = go op.action
  where
    go : (a : Action) → goes_on_by a ≡ true → opens_by a op x ≡ false
    go Read e = absurd (true_false (sym e))
    go Assign e = refl
    go Test e = refl
    go Go e = refl
    go Stop e = refl

-- an entry has its cell
pub entry-room : {w : ℕ} (c : List (List ℕ)) {count cells i : ℕ} → SearchReady w (columns_of c) count cells → i < count → i < length c
entry-room c ready l = omega (arith, filled-room c ready.filled, ready.filled.index.within)

-- ---- what `settle` and `expand` answer
-- the steps cost something else
pub expand_none : {w : ℕ} (op : Op) (x : Words) {r : Rows} {count cells : ℕ} (d k : ℕ) {cost : ℕ} → SearchReady w r count cells
    → (weight_of op ≡ cost → ⊥) → GrownIs (LeadsAt w op cost x) (LeadsAt w op cost x) w r r count cells d k (Some count)
unfolding GrownIs
expand_none op x d k ready other = (kept-none ready.filled (λ z a. other (sym (edge-weight a.1) ∙ a.2)), ready.marked)

-- no step that costs nothing leads away
pub settle_none : {w : ℕ} (op : Op) {r : Rows} {count cells i : ℕ} → SearchReady w r count cells → i < count → goes_on_of op ≡ false
    → ExpandedIs w op r r count cells i 0 (Some count)
unfolding GrownIs table_of
settle_none op {i = i} ready l still = (
  record { filled = ready.filled; grows = none; all = λ z a. record { at = i; below = l; is = sym (free_stays still a.1 a.2) } },
  ready.marked,
)

-- all that x leads to costs as much
all-at : {w : ℕ} {op : Op} {x : Words} {cost : ℕ} → weight_of op ≡ cost → (y : Words) → LeadsTo w op x y → LeadsAt w op cost x y
all-at same y (e, edge) = (e, edge, edge-weight edge ∙ same)

pub expand_every : (w : ℕ) (op : Op) (x : Words) (r r' : Rows) (count cells d k : ℕ) {cost : ℕ} → weight_of op ≡ cost → (g : Option ℕ)
    → GrownIs (LeadsTo w op x) (LeadsTo w op x) w r r' count cells d k g
    → GrownIs (LeadsAt w op cost x) (LeadsAt w op cost x) w r r' count cells d k g
unfolding GrownIs
expand_every w op x r r' count cells d k same (Some n) (kept, marks) =
    (record { filled = kept.filled; grows = grows-wider (all-at same) kept.grows; all = λ y a. kept.all y (a.0, a.1) }, marks)
expand_every w op x r r' count cells d k same None o = outgrown_wider (all-at same) o

-- by the words and the distance that were read
pub expanded_by : (w : ℕ) (op : Op) (r r' : Rows) (count cells k cost : ℕ) (g : Option ℕ) {x : Words} {d : ℕ}
    → GrownIs (LeadsAt w op cost x) (LeadsAt w op cost x) w r r' count cells d k g → x ≡ words_at (entries_of r) k
    → d ≡ distance_of (entries_of r) k + cost → ExpandedIs w op r r' count cells k cost g
expanded_by w op r r' count cells k cost g is same far =
    subst₂ (λ (x : Words) (d : ℕ). GrownIs (LeadsAt w op cost x) (LeadsAt w op cost x) w r r' count cells d k g) same far is

-- ---- the search of a flow at an entry
pub settled-within : {lo : ℤ} {w : ℕ} {flow : Flow} {r : Rows} {n cells c k : ℕ} → Exploring lo w flow r n cells c k → c ≤ n
unfolding table_of
settled-within x = x.searching.within

module _ {lo hi : ℤ} {w : ℕ} {flow : Flow} (f : FlowFits lo hi w flow) {r : Rows} {n cells c k : ℕ} (x : Exploring lo w flow r n cells c k) where
  entry-proper : (i : ℕ) → i < n → ProperWords lo w flow (words_at (entries_of r) i)
  unfolding word_graph table_of
  entry-proper =
      let sound = x.searching.sound in
      entry_induction sound (λ i. ProperWords lo w flow (words_at (entries_of r) i))
      (subst (ProperWords lo w flow) (sym sound.origin) (start-proper f))
      (λ i m c p. edge-proper f _ p c.edge)

  pub entry-stands : Legal flow → (i : ℕ) → i < n → Stands (get_or r.places i 0)
  unfolding word_graph table_of
  entry-stands l i h = path-stands l lo w (entry-path x.searching.sound i h)

  module _ (stored : k < n) {at cost : ℕ} (turn : Turn n c k at cost) where
    -- the words of the entry, and the distance of what its edges of that cost lead to
    abbrev here : Words
    here = words_at (entries_of r) at

    abbrev further : ℕ
    further = distance_of (entries_of r) at + cost

    entry_stored : at < n
    unfolding table_of
    entry_stored = turn_stored x.searching stored turn

    pub entry_fine : {op : Op} → op ≡ op_at lo flow here → FanFits w op here
    entry_fine is =
        let p = entry-proper at entry_stored in
        record {
          width = f.span.width;
          lane = subst (λ (o : Op). o.action ≡ Read → o.variable < 4) (sym is) (read-lane f here p);
          valid = p.again;
        }

    pub entry-near : distance_of (entries_of r) at < most_cells
    unfolding word_graph table_of
    entry-near =
        omega (
          arith,
          dist-small x.searching.sound weight-small at entry_stored,
          entry_stored,
          x.ready.filled.index.within,
          x.ready.filled.index.few,
        )

    module _ {op : Op} (is : op ≡ op_at lo flow here) where
      led : (y : Words) → LeadsAt w op cost here y → LeadsAt w (op_at lo flow here) cost here y
      led y = subst (λ (o : Op). LeadsAt w o cost here y) is

      -- no cell is left for what an edge leads to
      pub explored_full : Outgrown (LeadsAt w op cost here) further at (table_of (entries_of r) n) cells
          → MoreThan (Reached (word_graph lo w flow)) cells
      unfolding word_graph table_of
      explored_full o =
          let g = grows_extends o.grows in
          let sound = (turn_grown x.searching stored turn (grows-wider led o.grows)).sound in
          let (l, edge) = subst (λ (y : Words). LeadsTo w (op_at lo flow y) y o.words) (sym (g.nodes at entry_stored))
          ((led o.words o.wanted).0, (led o.words o.wanted).1) in
          full_outnumber sound cells at l o.words o.full (omega (arith, g.more, entry_stored)) edge o.fresh

      -- the entry is expanded
      pub explored : {r' : Rows} {m : ℕ}
          → Kept (LeadsAt w op cost here) (LeadsAt w op cost here) (entries_of r) (entries_of r') r'.heads r'.nexts
          n cells further at m × Marked w r'.fans (table_of (entries_of r') m) → length r'.fans ≡ length r.fans
          → {c' k' : ℕ} → c' + cost ≡ c + 1 → k' ≡ k + cost → Exploring lo w flow r' m cells c' k'
      unfolding word_graph table_of
      explored {r'} {m} (kept, marks) same settled expanded =
          record {
            ready = record { filled = kept.filled; room = omega (arith, x.ready.room, same); marked = marks };
            searching =
                turned x.searching stored turn (grows-wider led kept.grows) weight-small
                (λ y a. kept.all y (subst (λ (o : Op). LeadsAt w o cost here y) (sym is) a)) settled expanded;
          }

  -- no entry is left
  pub search_finished : n ≤ k → Finished lo w flow r cells n
  unfolding table_of
  search_finished end =
      record {
        complete = record { sound = x.searching.sound; closed = finish x.searching end; sorted = x.searching.sorted };
        filled = x.ready.filled;
        within = x.ready.filled.index.within;
      }

-- ---- the beginning
pub begun_exploring : {lo : ℤ} {w : ℕ} {flow : Flow} (r : Rows) {cells : ℕ} (s : Words) → s ≡ start_of lo
    → Begun (entries_of r) r.heads r.nexts r.fans cells (node s.place s.pattern) → cells ≤ length r.fans
    → Exploring lo w flow r 1 cells 0 0
unfolding word_graph table_of
begun_exploring {lo} {w} {flow} r s is b room =
    record {
      ready = record { filled = b.filled; room = room; marked = λ i v l m. absurd (true_false (sym m ∙ first i v (omega arith))) };
      searching = search_start (word_graph lo w flow) (table_of (entries_of r) 1) refl (node-words b.node ∙ is) b.distance b.parent;
    }
  where
    first : (i v : ℕ) → i ≡ 0 → is_marked r.fans i v ≡ false
    first i v e = ap (λ (j : ℕ). is_marked r.fans j v) e ∙ b.unmarked v

-- without a cell the start does not fit
pub none_fits : (lo : ℤ) (w : ℕ) (flow : Flow) (cells : ℕ) → cells ≡ 0 → MoreThan (Reached (word_graph lo w flow)) cells
none_fits lo w flow cells e = subst (MoreThan (Reached (word_graph lo w flow))) (sym e) (start_outnumber (word_graph lo w flow))

-- each of the cells has room for its marks
pub marks-room : (c c₁ : List (List ℕ)) (size : ℕ) → size ≡ cells_of c → length c₁ ≡ length c → size ≤ length (column marks_field c₁)
marks-room c c₁ size e same = omega (arith, e, same, length-column marks_field c₁)

-- a search of the cells that there are is a search of the row
pub of_all_cells : (lo : ℤ) (w : ℕ) (flow : Flow) (r : Rows) (a b : ℕ) (v : Option ℕ) → a ≡ b → SearchedIs lo w flow r a v
    → SearchedIs lo w flow r b v
of_all_cells lo w flow r a b v e = subst (λ (n : ℕ). SearchedIs lo w flow r n v) e
