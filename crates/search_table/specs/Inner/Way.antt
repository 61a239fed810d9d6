-- The records that the tapes yield on a way through the table; `path` holds its entries. A step of a read takes a record exactly if its tape has not
-- ended where the step leads: a read that finds none ends its tape.
use Rattle.std.specs.Prelude.{Bool, true, false, not, cond, ◌&&◌, List, ℕ, zero, suc, ◌+◌, ◌-◌, ◌<◌, ◌≤◌, length, get_or, set, replicate}
use Rattle.flow.specs.Limits.{max_tapes}
use Rattle.configuration.specs.Inner.Place.{at_of}
use Rattle.configuration.specs.Inner.Step.{ended_of}
use Rattle.configuration.specs.declared.Words.{Words}
use Rattle.configuration.specs.declared.Op.{Op}
use Rattle.configuration.specs.declared.Action.{Action}
use Rattle.configuration.specs.declared.Action.TheVariants.{Read, Assign, Test, Go, Stop}
use Rattle.cells.specs.Cells.{most_cells}
use Rattle.cells.specs.Inner.Entries.{Entries}
use Rattle.search_table.specs.Inner.Table.{words_at}
use Rattle.search_table.specs.Inner.Passes.{blank, Stands}

-- the words at place t of the row, and their place word
abbrev pub words_on : Entries → (path : List ℕ) → ℕ → Words
words_on e path t = words_at e (get_or path t 0)

abbrev pub place_on : (places path : List ℕ) → ℕ → ℕ
place_on places path t = get_or places (get_or path t 0) 0

-- places 0 to `last` of the row hold entries that stand at instructions
pub record Passable (places path : List ℕ) (last : ℕ) : Type 0 where
  pub few : last ≤ most_cells
  pub room : last < length path
  pub entry : (t : ℕ) → t ≤ last → get_or path t 0 < length places
  pub stands : (t : ℕ) → t ≤ last → Stands (place_on places path t)

-- the instruction of step t
abbrev pub op_on : List Op → (places path : List ℕ) → ℕ → Op
op_on ops places path t = get_or ops (at_of (place_on places path t) - 1) blank

abbrev pub is_read : Action → Bool
is_read Read = true
is_read Assign = false
is_read Test = false
is_read Go = false
is_read Stop = false

-- the records of each tape, with those of a step of op that takes its exit p or not
unfoldable pub counted_of : List ℕ → Op → Bool → List ℕ
counted_of counts op taken = cond (is_read op.action && taken) (set counts op.tape (get_or counts op.tape 0 + 1)) counts

-- how many records of each tape the first t steps take
unfoldable pub reads_on : List Op → (places path : List ℕ) → ℕ → List ℕ
reads_on ops places path zero = replicate max_tapes 0
reads_on ops places path (suc t) =
    let op = op_on ops places path t in
    counted_of (reads_on ops places path t) op (not (ended_of (place_on places path (suc t)) op.tape))
