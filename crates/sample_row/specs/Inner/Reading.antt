-- What a step does to the walk and the row. A read that takes p moves every record so far and every value as the choice says, and the
-- record goes behind those of its tape and to its variable. Tapes and variables are counted from 0 here.
use Rattle.std.specs.Prelude.{List, [], ◌∷◌, map, ℕ, suc, ◌+◌, ◌<◌, ℤ, pos, length, get_or, set, replicate}
use Rattle.model.specs.Inner.Lists.{All}
use Rattle.model.specs.Inner.View.{View, reads, sets, tests, goes, stops, term}
use Rattle.flow.specs.Limits.{max_tapes, max_variables}
use Rattle.sample_row.specs.Inner.Moves.{moved, Movable}
use Rattle.sample_row.specs.Inner.Layout.{tapes_at, on_parts, Apart}
use Rattle.sample_row.specs.Inner.Choices.{move_of, record_of}
use Rattle.sample_row.specs.declared.Choice.{Choice}
use Rattle.sample_row.specs.declared.Choice.TheVariants.{Take, Between}
use Rattle.sample_row.specs.declared.Walk.{Walk}

-- nothing written, every value 0, the parts of the sizes one after another
abbrev pub first_walk : (sizes : List ℕ) → Walk
first_walk sizes = record {
  values = replicate max_variables (pos 0);
  counts = replicate max_tapes 0;
  starts = 0 ∷ get_or sizes 0 0 ∷ (get_or sizes 0 0 + get_or sizes 1 0) ∷ [];
}

-- the tapes written so far
abbrev pub tapes_written : Walk → List ℤ → List (List ℤ)
tapes_written walk row = tapes_at walk.starts walk.counts row

-- the cell for the next record of tape a
abbrev pub next_cell : Walk → ℕ → ℕ
next_cell walk a = get_or walk.starts a 0 + get_or walk.counts a 0

-- the row with room made for a record
unfoldable pub roomed : Choice → (starts counts : List ℕ) → List ℤ → List ℤ
roomed (Take x) starts counts row = row
roomed (Between out m) starts counts row = on_parts (moved out m) starts counts row

-- after the read of tape a into variable u
abbrev pub walk_after : Choice → (a u : ℕ) → Walk → Walk
walk_after choice a u walk = record {
  values = set (map (move_of choice) walk.values) u (record_of choice);
  counts = set walk.counts a (suc (get_or walk.counts a 0));
  starts = walk.starts;
}

abbrev pub row_after : Choice → (a : ℕ) → Walk → List ℤ → List ℤ
row_after choice a walk row = set (roomed choice walk.starts walk.counts row) (next_cell walk a) (record_of choice)

-- the values after a step that reads no record
abbrev pub silent_values : View → List ℤ → List ℤ
silent_values (reads a v p m) values = values
silent_values (sets t v n) values = set values v (term values t)
silent_values (tests x y p m) values = values
silent_values (goes n) values = values
silent_values stops values = values

abbrev pub silent_after : View → Walk → Walk
silent_after w walk = record { values = silent_values w walk.values; counts = walk.counts; starts = walk.starts }

-- what the read asks: there is a cell for the record, and all numbers may move by one
pub record Ready (walk : Walk) (a u : ℕ) (row : List ℤ) : Type 0 where
  pub tape : a < max_tapes
  pub variable : u < max_variables
  pub apart : Apart 0 walk.starts walk.counts (length row)
  pub records : All (All Movable) (tapes_written walk row)
  pub values : All Movable walk.values
  pub cell : next_cell walk a < length row
