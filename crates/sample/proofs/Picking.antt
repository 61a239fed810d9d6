-- What a finished table gives for an exit, by what is found: nothing takes it, or the nearest entry that does gives the distance and the way.
use mathlib.Core.Path.{◌≡◌, refl, sym, ap, ◌∙◌, subst, subst⁻¹}
use mathlib.Core.Bool.{Bool, true}
use mathlib.Core.List.{List}
use Prim.Native.Nat.{ℕ, zero, suc, ◌+◌, ◌-◌, ◌≤◌, ◌<◌}
use native.Mathlib.Omega.{arith}
use native.Mathlib.Decide.{dec_lt}
use Rattle.std.specs.Prelude.{Option, Some, None, Ok, Err}
use lib.IntN.{ℤ}
use lib.Signed.{le_z}
use lib.Dec.{T}
use lib.ListN.{length, get_or}
use Rattle.model.specs.Language.{Flow, instruction, has_exits}
use Rattle.model.specs.Machine.{exit_if}
use Rattle.model.specs.Distance.{Distance}
use Rattle.flow.specs.Limits.{max_instructions, least_constant, greatest_constant}
use Rattle.flow.specs.declared.Refusal.TheVariants.{ShortRow}
use Rattle.configuration.specs.Inner.Op.{op_of}
use Rattle.configuration.specs.declared.Op.{Op}
use Rattle.flow.proofs.LimitLaws.{legal-limited}
use Rattle.configuration.proofs.Fitting.{fit-legal}
use Rattle.configuration.specs.Inner.Fits.{FlowFits}
use Rattle.cells.specs.Inner.Columns.{place_field, pattern_field, distance_field, parent_field, bucket_field, way_field, column, columns_of, Only}
use Rattle.cells.specs.Inner.Entries.{Entries, entries, entries_of, distance_of}
use Rattle.cells.proofs.Fields.{length-column, word-column-same}
use Rattle.cells.proofs.WayBack.{depth_small}
use Rattle.cells.specs.Inner.Way.{Depth, Traced}
use Rattle.search_table.specs.Inner.Table.{Complete}
use Rattle.search_table.specs.Inner.Passes.{blank, Prepared}
use Rattle.search_table.proofs.Says.{found_distance, found_stored, found_nothing, past_plain}
use Rattle.sample.specs.Inner.Sampling.{Course, course, course_in, exits_along, CourseLeads, end_of, Ends, WrittenBy, Tabled, NearestIs}
use Rattle.sample.specs.Inner.Picking.{PickedIs}
use Rattle.sample.specs.declared.Program.{Program}
use Rattle.sample.specs.declared.SampleAnswer.{SampleAnswer}
use Rattle.sample.proofs.WayToEntry.{traced_leads, found_ends}
use Rattle.sample.specs.Written.{Written}

-- ---- a way written into the cells leaves the entries
module _ (c c₁ : List (List ℕ)) (only : Only way_field c c₁) where
  entries-kept : entries_of (columns_of c) ≡ entries_of (columns_of c₁)
  entries-kept =
      λ i. entries (word-column-same place_field c₁ c (sym (only place_field (omega arith))) (sym (only (place_field + 1) (omega arith))) i)
      (word-column-same pattern_field c₁ c (sym (only pattern_field (omega arith))) (sym (only (pattern_field + 1) (omega arith))) i) (sym (only distance_field (omega arith)) i) (sym (only parent_field (omega arith)) i) (sym (only bucket_field (omega arith)) i)

-- ---- an instruction with two exits is one of the flow's
pub exits-first : (flow : Flow) (i : ℕ) → has_exits (instruction flow i) ≡ true → 1 ≤ i
exits-first flow zero h = let z : ◌≡◌ {A = ℕ} 0 1 = cc in absurd (omega arith)
exits-first flow (suc i) h = omega arith

pub exits-last : (flow : Flow) (i : ℕ) → has_exits (instruction flow i) ≡ true → i ≤ length flow.instructions
exits-last flow i h = by (dec_lt (length flow.instructions) i)
  where
    by : Dec (length flow.instructions < i) → i ≤ length flow.instructions
    by (yes l) = let q = past_plain flow i l in let z : ◌≡◌ {A = ℕ} 0 1 = cc in absurd (omega arith)
    by (no l) = omega arith

-- ---- what is found: a sample, none, or a row that is too short
pub nearest_is : (w : ℕ) (e : Entries) (n : ℕ) (ops : List Op) (i : ℕ) (exit : Bool) {r found : Option ℕ} → r ≡ found
    → NearestIs w e n ops i (exit_if exit) r → NearestIs w e n ops i (exit_if exit) found
nearest_is w e n ops i exit q h = subst (λ (x : Option ℕ). NearestIs w e n ops i (exit_if exit) x) q h

module _ {flow : Flow} {e : Entries} {n room w : ℕ} {p : Program} {i : ℕ} (t : Tabled flow e n room w p i) where
  abbrev lo : ℤ
  lo = p.lo

  abbrev hi : ℤ
  hi = p.hi

  abbrev ops : List Op
  ops = p.ops

  fit : FlowFits lo hi w flow
  fit = rw (t.low, t.high, t.width) (fit-legal flow t.legal)

  prepared : Prepared lo flow ops
  prepared = rw t.low t.prepared

  complete : Complete lo w flow e n
  complete = rw t.low t.complete

  low : T (le_z least_constant lo)
  low = rw t.low (legal-limited flow t.legal).0.0

  high : T (le_z hi greatest_constant)
  high = rw t.high (legal-limited flow t.legal).1.1

  pub tabled_first : 1 ≤ i
  tabled_first = exits-first flow i t.wanted

  pub tabled_last : i ≤ max_instructions
  tabled_last = omega (arith, exits-last flow i t.wanted, t.legal.size.1)

  op_is : get_or ops (i - 1) blank ≡ op_of lo (instruction flow i)
  op_is =
      let n : suc (i - 1) ≡ i = omega (arith, tabled_first) in
      prepared.each (i - 1) (omega (arith, tabled_first, tabled_last)) ∙ ap (λ (j : ℕ). op_of lo (instruction flow j)) n

  module _ (exit : Bool) where
    pub nothing_picked : (tapes : ℕ) (row : List ℤ) → NearestIs w e n p.ops i (exit_if exit) None
        → PickedIs flow tapes i (exit_if exit) row row (Ok None)
    unfolding PickedIs
    nothing_picked tapes row h = (found_nothing fit complete i (exit_if exit) (get_or ops (i - 1) blank) op_is h, refl)

    module _ (k : ℕ) (h : NearestIs w e n p.ops i (exit_if exit) (Some k)) where
      pub nearest_below : k < n
      nearest_below = found_stored fit complete i (exit_if exit) (get_or ops (i - 1) blank) op_is k h

      -- its distance, as a number that the code holds
      module _ {d : ℕ} (is-far : d ≡ distance_of e k) where
        pub short_picked : (tapes : ℕ) (row : List ℤ) → length row ≤ d → PickedIs flow tapes i (exit_if exit) row row (Err ShortRow)
        unfolding PickedIs
        short_picked tapes row l =
            let far : Distance flow i (exit_if exit) (suc d)
            = subst⁻¹ (λ (m : ℕ). Distance flow i (exit_if exit) (suc m)) is-far
            (found_distance fit complete i (exit_if exit) (get_or ops (i - 1) blank) op_is k h) in
            (refl, record { needed = suc d; distance = far; short = omega arith }, refl)

        -- and the way to it
        module _ {path : List ℕ} (long : length path ≡ room) {steps : ℕ} (deep : Depth e.parents k steps)
            (way : Traced e.parents path n k steps) where
          abbrev way_course : Course
          way_course = course e.places e.patterns e.distances path steps ops w lo hi

          way_leads : CourseLeads way_course flow
          way_leads =
              let below = nearest_below in
              let short = depth_small t.parents below deep in
              traced_leads fit complete way ops low high prepared t.walkable (omega (arith, t.walkable.few)) (omega (arith, t.path_room))

          way_end : Ends way_course flow exit × (end_of way_course ≡ i)
          way_end = found_ends fit complete way ops i exit (get_or ops (i - 1) blank) op_is h

          way_ends_there : Ends way_course flow exit
          way_ends_there = way_end.0

          way_exits : exits_along way_course steps ≡ d
          way_exits = ap (distance_of e) way.ends ∙ sym is-far

          taken_picked : {tapes : ℕ} {row row' : List ℤ} (r : SampleAnswer) → WrittenBy way_course flow exit row row' r.lengths → r.distance ≡ d + 1
              → r.tapes ≡ tapes → PickedIs flow tapes i (exit_if exit) row row' (Ok (Some r))
          unfolding PickedIs
          taken_picked {tapes} {row} {row'} r x far same =
              let there : suc (exits_along way_course steps) ≡ r.distance = omega (arith, way_exits) in
              let at : Written lo hi flow i (exit_if exit) r.distance row row' r.lengths
              = subst (λ (m : ℕ). Written lo hi flow i (exit_if exit) m row row' r.lengths) there
              (subst (λ (j : ℕ). Written lo hi flow j (exit_if exit) (suc (exits_along way_course steps)) row row' r.lengths) way_end.1 x) in
              (same, rw (t.low, t.high) at at)

-- ---- the way as the code writes it: into the cells, which then hold the same entries
module _ (c c₁ : List (List ℕ)) (only : Only way_field c c₁) (cells : length c₁ ≡ length c) {flow : Flow} {n w : ℕ} {p : Program} {i : ℕ}
    (t : Tabled flow (entries_of (columns_of c)) n (length c) w p i) (exit : Bool) {k : ℕ}
    (h : NearestIs w (entries_of (columns_of c)) n p.ops i (exit_if exit) (Some k)) {d : ℕ} (far : d ≡ get_or (column distance_field c) k 0)
    {steps : ℕ} (deep : Depth (column parent_field c) k steps) (way : Traced (column parent_field c) (column way_field c₁) n k steps) where
  kept : entries_of (columns_of c) ≡ entries_of (columns_of c₁)
  kept = entries-kept c c₁ only

  t₁ : Tabled flow (entries_of (columns_of c₁)) n (length c) w p i
  t₁ = subst (λ (e : Entries). Tabled flow e n (length c) w p i) kept t

  h₁ : NearestIs w (entries_of (columns_of c₁)) n p.ops i (exit_if exit) (Some k)
  h₁ = subst (λ (e : Entries). NearestIs w e n p.ops i (exit_if exit) (Some k)) kept h

  far₁ : d ≡ distance_of (entries_of (columns_of c₁)) k
  far₁ = far ∙ ap (λ (l : List ℕ). get_or l k 0) (sym (only distance_field (omega arith)))

  long : length (column way_field c₁) ≡ length c
  long = length-column way_field c₁ ∙ cells

  deep₁ : Depth (column parent_field c₁) k steps
  deep₁ = subst (λ (e : Entries). Depth e.parents k steps) kept deep

  way₁ : Traced (column parent_field c₁) (column way_field c₁) n k steps
  way₁ = subst (λ (e : Entries). Traced e.parents (column way_field c₁) n k steps) kept way

  pub written_leads : CourseLeads (course_in c₁ steps w p) flow × Ends (course_in c₁ steps w p) flow exit
  written_leads = (way_leads t₁ exit k h₁ far₁ long deep₁ way₁, way_ends_there t₁ exit k h₁ far₁ long deep₁ way₁)

  pub written_exits : exits_along (course_in c₁ steps w p) steps ≡ d
  written_exits = way_exits t₁ exit k h₁ far₁ long deep₁ way₁

  pub written_picked : {tapes : ℕ} {row row' : List ℤ} (r : SampleAnswer) → WrittenBy (course_in c₁ steps w p) flow exit row row' r.lengths
      → r.distance ≡ d + 1 → r.tapes ≡ tapes → PickedIs flow tapes i (exit_if exit) row row' (Ok (Some r))
  written_picked r = taken_picked t₁ exit k h₁ far₁ long deep₁ way₁ r
