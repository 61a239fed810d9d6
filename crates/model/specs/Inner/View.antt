-- The nine instructions as five kinds: reads, sets, tests, goes on, stops. A term is a variable or a constant; variables and tapes are lanes,
-- counted from 0. And what the theory asks of a flow.
use Rattle.std.specs.Prelude.{List, ℕ, ◌-◌, ◌<◌, ◌≤◌, ℤ, pos, get_or}
use Rattle.graph.specs.Lists.{In}
use Rattle.model.specs.Language.{Instruction, read, put, copy, const, less, over, under, nop, stop, Flow, instruction, Field, tape, output, variable, target, constant, fields, constants}
use Rattle.model.specs.Inner.Lists.{All}
use Rattle.model.specs.Inner.Integers.{Inside}

pub data Term : Type 0 where
  held : ℕ → Term
  literal : ℤ → Term

pub data View : Type 0 where
  reads : (a v p m : ℕ) → View
  sets : (t : Term) (v n : ℕ) → View
  tests : (x y : Term) (p m : ℕ) → View
  goes : (n : ℕ) → View
  stops : View

abbrev pub view : Instruction → View
view (read a v p m) = reads (a - 1) (v - 1) p m
view (put v y n) = goes n
view (copy u v n) = sets (held (u - 1)) (v - 1) n
view (const c v n) = sets (literal c) (v - 1) n
view (less u v p m) = tests (held (u - 1)) (held (v - 1)) p m
view (over c v p m) = tests (literal c) (held (v - 1)) p m
view (under v c p m) = tests (held (v - 1)) (literal c) p m
view (nop n) = goes n
view stop = stops

-- the view of instruction number i
abbrev pub view_at : Flow → ℕ → View
view_at flow i = view (instruction flow i)

-- the value in a lane, 0 past the end; and a term's value
abbrev pub lane_value : List ℤ → ℕ → ℤ
lane_value l i = get_or l i (pos 0)

abbrev pub term : List ℤ → Term → ℤ
term l (held u) = lane_value l u
term l (literal c) = c

-- what the theory asks of a flow: it names its own tapes and variables, counted from 1, and its constants and 0 lie from lo to hi
abbrev pub Numbered : Flow → Field → Type 0
Numbered flow (tape a) = (0 < a) × (a ≤ flow.tapes)
Numbered flow (output y) = Unit {0}
Numbered flow (variable v) = (0 < v) × (v ≤ flow.variables)
Numbered flow (target n) = Unit {0}
Numbered flow (constant c) = Unit {0}

pub record LegalFlow (lo hi : ℤ) (flow : Flow) : Type 0 where
  pub zero : Inside lo hi (pos 0)
  pub numbers : (i : ℕ) → All (Numbered flow) (fields (instruction flow i))
  pub constants_inside : (i : ℕ) (c : ℤ) → In c (constants (fields (instruction flow i))) → Inside lo hi c

-- P of every instruction that a view goes on to
abbrev pub Targeted : (ℕ → Type 0) → View → Type 0
Targeted P (reads a v p m) = P p × P m
Targeted P (sets t v n) = P n
Targeted P (tests x y p m) = P p × P m
Targeted P (goes n) = P n
Targeted P stops = Unit {0}
