-- The way through a finished table that a sample follows, and what is left in the row.
use Rattle.std.specs.Prelude.{◌≡◌, Option as Found, Bool, true, List, ℕ, suc, ◌+◌, ◌-◌, ◌<◌, ◌≤◌, ℤ, length, get_or, drop, T}
use Rattle.std.proofs.Math.Option.{Option}
use Rattle.std.specs.Int.Signed.{le_z}
use Rattle.model.specs.Language.{Flow, instruction, has_exits, C1, C2}
use Rattle.model.specs.Machine.{Exit, exit_if}
use Rattle.model.specs.Distance.{weight, Distance}
use Rattle.model.specs.Tapes.{total}
use Rattle.model.specs.Inner.Runs.{Follows, wider}
use Rattle.flow.specs.Limits.{max_tapes, max_variables, least_constant, greatest_constant}
use Rattle.flow.specs.Legal.{Legal}
use Rattle.model.specs.Pattern.{width_of}
use Rattle.configuration.specs.Inner.Place.{words, at_of, configuration_of}
use Rattle.configuration.specs.Inner.Step.{takes_of, start_of}
use Rattle.configuration.specs.Inner.Graph.{WordEdge, op_at}
use Rattle.configuration.specs.declared.Words.{Words}
use Rattle.configuration.specs.declared.Op.{Op}
use Rattle.configuration.specs.Inner.Fits.{FlowFits, ProperWords}
use Rattle.cells.specs.Inner.Columns.{place_field, pattern_field, distance_field, way_field, column, word_column}
use Rattle.cells.specs.Inner.Entries.{Entries}
use Rattle.cells.specs.Inner.Way.{Parents}
use Rattle.search_table.specs.Inner.Table.{Complete}
use Rattle.search_table.specs.Inner.Passes.{blank, Prepared, Walkable, takes_at, FirstIs}
use Rattle.search_table.specs.Inner.Way.{place_on, Passable, op_on, counted_of, reads_on}
use Rattle.sample_row.specs.Inner.Reading.{tapes_written}
use Rattle.sample_row.specs.Inner.WalkFits.{WalkFits}
use Rattle.sample_row.specs.declared.Walk.{Walk}
use Rattle.sample.specs.declared.Program.{Program}
use Rattle.sample.specs.Written.{Written}

-- a way of so many steps: the rows of the table, the row that holds the way, the prepared instructions, and C1 and C2
pub record Course : Type 0 where
  pub places : List ℕ
  pub patterns : List ℕ
  pub distances : List ℕ
  pub path : List ℕ
  pub steps : ℕ
  pub ops : List Op
  pub w : ℕ
  pub lo : ℤ
  pub hi : ℤ

abbrev pub course : (places patterns distances path : List ℕ) (steps : ℕ) (ops : List Op) (w : ℕ) (lo hi : ℤ) → Course
course places patterns distances path steps ops w lo hi =
    record { places = places; patterns = patterns; distances = distances; path = path; steps = steps; ops = ops; w = w; lo = lo; hi = hi }

-- the way that the cells hold
abbrev pub course_in : (c : List (List ℕ)) (steps w : ℕ) → Program → Course
course_in c steps w p =
    course (word_column place_field c) (word_column pattern_field c) (column distance_field c) (column way_field c) steps p.ops w p.lo p.hi

-- the words at place t of the way, the instruction of step t, and how many records of each tape the first t steps take
abbrev pub words_along : Course → ℕ → Words
words_along k t = words (place_on k.places k.path t) (get_or k.patterns (get_or k.path t 0) 0)

abbrev pub op_along : Course → ℕ → Op
op_along k t = op_on k.ops k.places k.path t

abbrev pub reads_along : Course → ℕ → List ℕ
reads_along k t = reads_on k.ops k.places k.path t

-- the same, with the step that takes the wanted exit at the end of the way, p if `exit`
abbrev pub sizes_along : Course → (exit : Bool) → List ℕ
sizes_along k exit = counted_of (reads_along k k.steps) (op_along k k.steps) exit

-- the exits up to place t of the way: the distance of its entry
abbrev pub exits_along : Course → ℕ → ℕ
exits_along k t = get_or k.distances (get_or k.path t 0) 0

-- the way leads from the flow's start by edges of the graph on words, and its distances count their exits
pub record CourseLeads (k : Course) (flow : Flow) : Type 0 where
  pub fit : FlowFits k.lo k.hi k.w flow
  pub low : T (le_z least_constant k.lo)
  pub high : T (le_z k.hi greatest_constant)
  pub prepared : Prepared k.lo flow k.ops
  pub passable : Passable k.places k.path k.steps
  pub patterned : (t : ℕ) → t ≤ k.steps → get_or k.path t 0 < length k.patterns
  pub starts : words_along k 0 ≡ start_of k.lo
  pub near : exits_along k 0 ≡ 0
  pub edge : (t : ℕ) → t < k.steps
      → (e : Option Exit) × WordEdge k.w (op_at k.lo flow (words_along k t)) (words_along k t) e (words_along k (t + 1))
      × (exits_along k (t + 1) ≡ exits_along k t + weight e)

-- the instruction at its end
abbrev pub end_of : Course → ℕ
end_of k = at_of (place_on k.places k.path k.steps)

-- and there the wanted exit can be taken, at its distance
pub record Ends (k : Course) (flow : Flow) (exit : Bool) : Type 0 where
  pub takes : takes_of k.w (op_at k.lo flow (words_along k k.steps)) (words_along k k.steps) (exit_if exit) ≡ true
  pub distance : Distance flow (end_of k) (exit_if exit) (suc (exits_along k k.steps))

-- sizes of the three tapes' parts that leave room for the records of the way
pub record Roomy (k : Course) (sizes : List ℕ) (cells : ℕ) : Type 0 where
  pub three : length sizes ≡ max_tapes
  pub room : (a : ℕ) → get_or (reads_along k k.steps) a 0 ≤ get_or sizes a 0
  pub few : total sizes ≤ suc (exits_along k k.steps)
  pub long : total sizes ≤ cells

-- after t steps: the run on the tapes written so far, with four variables and three tapes, stands at the words of the way
pub record Following (k : Course) (flow : Flow) (sizes : List ℕ) (old : List ℤ) (t : ℕ) (walk : Walk) (row : List ℤ) : Type 0 where
  pub laid : WalkFits k.lo k.hi sizes walk row
  pub counts : walk.counts ≡ reads_along k t
  pub reads : ℕ
  pub follows : Follows k.lo k.hi (wider max_tapes max_variables flow) t (exits_along k t) reads (tapes_written walk row) walk.values
      (configuration_of k.lo k.w (wider max_tapes max_variables flow) (words_along k t))
  pub proper : ProperWords k.lo k.w (wider max_tapes max_variables flow) (words_along k t)
  pub size : length row ≡ length old
  pub beyond : drop (total sizes) row ≡ drop (total sizes) old

-- the row holds a sample for the exit at the end of the way
abbrev pub WrittenBy : Course → Flow → (exit : Bool) (old row : List ℤ) (lengths : List ℕ) → Type 0
WrittenBy k flow exit old row lengths = Written k.lo k.hi flow (end_of k) (exit_if exit) (suc (exits_along k k.steps)) old row lengths

-- ---- the table that a way is taken from
-- a finished table of n entries of a flow, with its instructions prepared, C1 and C2, and room for the way to an entry; instruction i has two
-- exits
pub record Tabled (flow : Flow) (e : Entries) (n room w : ℕ) (p : Program) (i : ℕ) : Type 0 where
  pub legal : Legal flow
  pub width : w ≡ width_of (C1 flow) (C2 flow)
  pub low : p.lo ≡ C1 flow
  pub high : p.hi ≡ C2 flow
  pub prepared : Prepared (C1 flow) flow p.ops
  pub complete : Complete (C1 flow) w flow e n
  pub parents : Parents e.parents n
  pub walkable : Walkable e.places e.patterns e.distances n
  pub path_room : n ≤ room
  pub wanted : has_exits (instruction flow i) ≡ true

-- the entry that is nearest of those that take exit x of instruction i
abbrev pub NearestIs : (w : ℕ) → Entries → (n : ℕ) (ops : List Op) (i : ℕ) → Exit → Found ℕ → Type 0
NearestIs w e n ops i x = FirstIs (takes_at w e.places e.patterns (get_or ops (i - 1) blank) i x) n
