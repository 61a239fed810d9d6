-- Runs as the theory follows them: where a run stands, with which tapes and values; and the value beside which a new record goes.
use Rattle.std.specs.Prelude.{Bool, cond, ◌&&◌, List, [], ◌∷◌, ◌≡◌, ℕ, ◌+◌, ◌≤◌, ℤ, replicate, length}
use Rattle.model.specs.Language.{Flow}
use Rattle.model.specs.Machine.{State, run}
use Rattle.model.specs.Distance.{exits_taken}
use Rattle.model.specs.Sample.{Near}
use Rattle.model.specs.Inner.Lists.{All}
use Rattle.model.specs.Pattern.{pattern}
use Rattle.model.specs.Configuration.{Configuration}

-- the furthest of m and the numbers of w beside those of v that lie before x, as a loop finds it
abbrev pub furthest : (ℤ → ℤ → Bool) → (m x : ℤ) → List ℤ → List ℤ → ℤ
furthest less m x [] w = m
furthest less m x (a ∷ v) [] = m
furthest less m x (a ∷ v) (b ∷ w) = furthest less (cond (less a x && less m b) b m) x v w

-- at instruction k, with the values v and the ends e, and nothing left on any tape
abbrev pub resting : Flow → ℕ → List ℤ → List Bool → State
resting flow k v e = record { next = k; variables = v; left = replicate flow.tapes []; ended = e }

-- how many records there are on tapes
abbrev pub records : List (List ℤ) → ℕ
records [] = 0
records (t ∷ ts) = length t + records ts

-- after n steps, of which d take an exit and r read a record, the run stands at instruction k with the values v and the ends e, and has read all
-- of its tapes
pub record RunStands (lo hi : ℤ) (flow : Flow) (n d r : ℕ) (tapes : List (List ℤ)) (k : ℕ) (v : List ℤ) (e : List Bool) : Type 0 where
  pub count : length tapes ≡ flow.tapes
  pub is : run flow tapes n ≡ resting flow k v e
  pub near : All (All (Near lo hi r)) tapes
  pub values_near : All (Near lo hi r) v
  pub total : records tapes ≡ r
  pub exits : exits_taken flow tapes n ≡ d
  pub few : r ≤ d

-- after n steps, of which d take an exit and r read a record, the run on the tapes stands at c with the values v
pub record Follows (lo hi : ℤ) (flow : Flow) (n d r : ℕ) (tapes : List (List ℤ)) (v : List ℤ) (c : Configuration) : Type 0 where
  pub stands : RunStands lo hi flow n d r tapes c.next v c.ended
  pub marks : pattern lo hi v ≡ c.marks

-- a flow with so many tapes and variables
abbrev pub wider : (nt nv : ℕ) → Flow → Flow
wider nt nv flow = record { tapes = nt; outputs = flow.outputs; variables = nv; instructions = flow.instructions }
