-- What every step of a walk keeps: each tape has its part of the row, and the records stay in their range (document 01: each lies
-- between C1 less the distance and C2 plus the distance). A step that reads a record takes an exit, so there are no more reads than exits.
use Rattle.std.specs.Prelude.{◌≡◌, List, ℕ, ◌≤◌, ℤ, T, length}
use Rattle.std.specs.Int.Signed.{le_z}
use Rattle.model.specs.Sample.{Near}
use Rattle.model.specs.Tapes.{total}
use Rattle.model.specs.Inner.Lists.{All}
use Rattle.flow.specs.Limits.{max_tapes, max_variables, least_constant, greatest_constant}
use Rattle.sample_row.specs.Inner.Layout.{Laid}
use Rattle.sample_row.specs.Inner.Reading.{tapes_written}
use Rattle.sample_row.specs.declared.Walk.{Walk}

-- no sample has more records
abbrev pub most_records : ℕ
most_records = 131072

-- lo and hi within the limits of constants, and not too many records: all numbers have 32 bits
pub record Bounded (lo hi : ℤ) (records : ℕ) : Type 0 where
  pub low : T (le_z least_constant lo)
  pub high : T (le_z hi greatest_constant)
  pub few : records ≤ most_records

-- the parts of the sizes lie in the row; after as many reads as there are records, r, each record and each value lies from lo less r
-- to hi plus r
pub record WalkFits (lo hi : ℤ) (sizes : List ℕ) (walk : Walk) (row : List ℤ) : Type 0 where
  pub bounded : Bounded lo hi (total sizes)
  pub laid : Laid 0 walk.starts walk.counts sizes
  pub long : total sizes ≤ length row
  pub near : All (All (Near lo hi (total walk.counts))) (tapes_written walk row)
  pub values_near : All (Near lo hi (total walk.counts)) walk.values
  pub three : length walk.starts ≡ max_tapes
  pub four : length walk.values ≡ max_variables
