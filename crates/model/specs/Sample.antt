-- A sample for an exit (document 01, "Distances and configurations").
use Rattle.std.specs.Prelude.{◌≡◌, List, [], ℕ, ℤ, pos, ◌+ℤ◌, neg_ℤ, length, replicate, T}
use Rattle.std.specs.Int.Signed.{le_z}
use Rattle.graph.specs.Lists.{In}
use Rattle.model.specs.Language.{Flow}
use Rattle.model.specs.Machine.{Exit, run}
use Rattle.model.specs.Distance.{Takes, Distance}

-- a record between lo less d and hi plus d
pub record Near (lo hi : ℤ) (d : ℕ) (x : ℤ) : Type 0 where
  pub low : T (le_z (lo +ℤ neg_ℤ (pos d)) x)
  pub high : T (le_z x (hi +ℤ pos d))

-- T tapes whose run takes the exit as exit number d, the least, and which hold only the records read up to there
pub record Sample (lo hi : ℤ) (flow : Flow) (i : ℕ) (e : Exit) (d : ℕ) (tapes : List (List ℤ)) : Type 0 where
  pub count : length tapes ≡ flow.tapes
  pub distance : Distance flow i e d
  pub takes : Takes flow tapes i e d
  pub used : (run flow tapes takes.step).left ≡ replicate flow.tapes []
  pub near : (tape : List ℤ) (x : ℤ) → In tape tapes → In x tape → Near lo hi d x
