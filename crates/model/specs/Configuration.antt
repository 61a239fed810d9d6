-- Configurations, and those that are reachable (document 01, "Distances and configurations").
use Rattle.std.specs.Prelude.{◌≡◌, Bool, List, ℕ, ℤ, length}
use Rattle.model.specs.Language.{Flow}
use Rattle.model.specs.Machine.{State, run}
use Rattle.model.specs.Pattern.{Mark, pattern}

-- the instruction about to be run, the set of tapes on which a read has met the end, and the pattern of the variables
pub record Configuration : Type 0 where
  pub next : ℕ
  pub ended : List Bool
  pub marks : List Mark

abbrev pub configuration : (lo hi : ℤ) → State → Configuration
configuration lo hi s = record { next = s.next; ended = s.ended; marks = pattern lo hi s.variables }

-- some run on some T tapes arrives at the configuration
pub record Reachable (lo hi : ℤ) (flow : Flow) (c : Configuration) : Type 0 where
  pub tapes : List (List ℤ)
  pub count : length tapes ≡ flow.tapes
  pub n : ℕ
  pub arrives : configuration lo hi (run flow tapes n) ≡ c
