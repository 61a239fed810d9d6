-- A sample in the record row, and a row that is too short (document 01, "Distances and configurations" and "Where a
-- request is turned back").
use Rattle.std.specs.Prelude.{◌≡◌, List, ℕ, ◌≤◌, ◌<◌, ℤ, length, get_or, take, drop}
use Rattle.model.specs.Language.{Flow}
use Rattle.model.specs.Machine.{Exit}
use Rattle.model.specs.Distance.{Distance}
use Rattle.model.specs.Sample.{Sample}
use Rattle.model.specs.Tapes.{tapes_in, total}
use Rattle.flow.specs.Limits.{max_tapes}

-- a sample: the records of tape 1 stand first in the row, those of the next tape follow directly after it, and cells beyond them keep their
-- values; the lengths are those of the tapes, 0 for a tape that the flow does not have
pub record Written (lo hi : ℤ) (flow : Flow) (i : ℕ) (e : Exit) (distance : ℕ) (row row' : List ℤ) (lengths : List ℕ) : Type 0 where
  pub sample : Sample lo hi flow i e distance (tapes_in (take flow.tapes lengths) row')
  pub three : length lengths ≡ max_tapes
  pub idle : (a : ℕ) → flow.tapes ≤ a → get_or lengths a 0 ≡ 0
  pub few : total lengths ≤ distance
  pub room : distance ≤ length row
  pub size : length row' ≡ length row
  pub beyond : drop (total lengths) row' ≡ drop (total lengths) row

-- the distance is not none, and the row is shorter
pub record Short (flow : Flow) (i : ℕ) (e : Exit) (row : List ℤ) : Type 0 where
  pub needed : ℕ
  pub distance : Distance flow i e needed
  pub short : length row < needed
