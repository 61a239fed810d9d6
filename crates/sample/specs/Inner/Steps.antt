-- What one step of a path does to the walk and the row.
use Rattle.std.specs.Prelude.{Bool, not, cond, ◌&&◌, List, map, ℕ, ◌<◌, ℤ, pos, ◌+ℤ◌, get_or, set, T, ltb}
use Rattle.std.specs.Int.Signed.{le_z}
use Rattle.flow.specs.Limits.{max_tapes, max_variables, least_constant}
use Rattle.pattern_word.specs.Inner.Pattern.{max_width, lanes, values_of}
use Rattle.configuration.specs.Inner.Step.{ended_of}
use Rattle.configuration.specs.declared.Words.{Words}
use Rattle.configuration.specs.declared.Op.{Op}
use Rattle.configuration.specs.declared.Action.{Action}
use Rattle.configuration.specs.declared.Action.TheVariants.{Read, Assign, Test, Go, Stop}
use Rattle.pattern_word.specs.Inner.Span.{real}
use Rattle.search_table.specs.Inner.Way.{is_read}
use Rattle.sample_row.specs.Inner.Choices.{chosen}
use Rattle.sample_row.specs.Inner.Reading.{walk_after, row_after}
use Rattle.sample_row.specs.declared.Choice.{Choice}
use Rattle.sample_row.specs.declared.Walk.{Walk}

-- the wish of a pattern word: the values that a trial uses for its codes, as whole numbers
unfoldable pub wish_of : (lo : ℤ) (w pattern : ℕ) → List ℤ
wish_of lo w pattern = map (real lo) (values_of w (lanes w pattern))

-- whether a step of op to the words x reads a record: a read that finds none ends its tape
unfoldable pub takes_record : Op → (x : Words) → Bool
takes_record op x = is_read op.action && not (ended_of x.place op.tape)

-- the value of term u: a variable, and from `max_variables` on the constant
unfoldable pub term_in : (lo : ℤ) → Op → (values : List ℤ) → ℕ → ℤ
term_in lo op values u = cond (ltb u max_variables) (get_or values u (pos 0)) (lo +ℤ pos op.constant)

-- the values after a step that reads no record
abbrev pub values_by : Action → (lo : ℤ) → Op → List ℤ → List ℤ
values_by Read lo op values = values
values_by Assign lo op values = set values op.variable (term_in lo op values op.left)
values_by Test lo op values = values
values_by Go lo op values = values
values_by Stop lo op values = values

-- the walk after such a step
unfoldable pub quiet_walk : (lo : ℤ) → Op → Walk → Walk
quiet_walk lo op walk = record { values = values_by op.action lo op walk.values; counts = walk.counts; starts = walk.starts }

-- the record of a step of op to x: it gives the values the pattern of x
abbrev pub choice_to : (lo hi : ℤ) (w : ℕ) → Op → (x : Words) → Walk → Choice
choice_to lo hi w op x walk = chosen lo hi (wish_of lo w x.pattern) walk.values op.variable

-- the walk and the row after a step of op to x
unfoldable pub walk_to : (lo hi : ℤ) (w : ℕ) → Op → (x : Words) → Walk → Walk
walk_to lo hi w op x walk =
    cond (takes_record op x) (walk_after (choice_to lo hi w op x walk) op.tape op.variable walk) (quiet_walk lo op walk)

unfoldable pub row_to : (lo hi : ℤ) (w : ℕ) → Op → (x : Words) → Walk → List ℤ → List ℤ
row_to lo hi w op x walk row = cond (takes_record op x) (row_after (choice_to lo hi w op x walk) op.tape walk row) row

-- the plainest record that takes p of a read is 0; the row after a last step by exit p, or m
abbrev pub plain_choice : (lo hi : ℤ) → Op → Walk → Choice
plain_choice lo hi op walk = chosen lo hi (set walk.values op.variable (pos 0)) walk.values op.variable

unfoldable pub last_row : (lo hi : ℤ) → Op → (exit : Bool) → Walk → List ℤ → List ℤ
last_row lo hi op exit walk row = cond (is_read op.action && exit) (row_after (plain_choice lo hi op walk) op.tape walk row) row

-- a prepared instruction of a flow names its own, and its constant is a code
pub record OpFits (op : Op) : Type 0 where
  pub tape : op.tape < max_tapes
  pub variable : op.variable < max_variables
  pub constant : op.constant < max_width

-- C1 is not below the least constant, and 0 is not below C1
pub record Low (lo : ℤ) : Type 0 where
  pub some : T (le_z least_constant lo)
  pub most : T (le_z lo (pos 0))
