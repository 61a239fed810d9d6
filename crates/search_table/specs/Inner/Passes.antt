-- What passes over the entries of a table find: the first entry that takes an exit, and the distance that it gives.
use Rattle.std.specs.Prelude.{◌≡◌, Bool, true, ◌&&◌, List, ℕ, suc, ◌+◌, ◌<◌, ◌≤◌, ℤ, length, get_or, eqb, Option, Some, None}
use Rattle.model.specs.Language.{Flow, instruction}
use Rattle.model.specs.Machine.{Exit, p_exit, m_exit}
use Rattle.flow.specs.Limits.{max_instructions}
use Rattle.configuration.specs.Inner.Place.{words, at_of}
use Rattle.configuration.specs.Inner.Op.{read_op, op_of}
use Rattle.configuration.specs.Inner.Step.{takes_of}
use Rattle.configuration.specs.declared.Op.{Op}
use Rattle.cells.specs.Cells.{most_cells}
use Rattle.search_table.specs.declared.Distances.{Distances}
use Rattle.graph.specs.Inner.Table.{NoneBefore}

-- what an array of prepared instructions gives past its end
abbrev pub blank : Op
blank = read_op 0 0 0 0

-- ops are the flow's instructions, prepared: instruction i stands at i - 1, and past the flow's last stands `stop`
pub record Prepared (lo : ℤ) (flow : Flow) (ops : List Op) : Type 0 where
  pub each : (i : ℕ) → i < max_instructions → get_or ops i blank ≡ op_of lo (instruction flow (suc i))

-- words stand at an instruction of such an array
pub record Stands (place : ℕ) : Type 0 where
  pub first : 1 ≤ at_of place
  pub last : at_of place ≤ max_instructions

-- the rows hold n entries; each stands at an instruction, no further from the start than its index says
pub record Walkable (places patterns distances : List ℕ) (n : ℕ) : Type 0 where
  pub few : n ≤ most_cells
  pub place_room : n ≤ length places
  pub pattern_room : n ≤ length patterns
  pub distance_room : n ≤ length distances
  pub stands : (k : ℕ) → k < n → Stands (get_or places k 0)
  pub near : (k : ℕ) → k < n → get_or distances k 0 ≤ k

-- whether entry k stands at instruction i, prepared as op, and can take exit e
unfoldable pub takes_at : (w : ℕ) (places patterns : List ℕ) → Op → (i : ℕ) → Exit → (k : ℕ) → Bool
takes_at w places patterns op i e k = eqb (at_of (get_or places k 0)) i && takes_of w op (words (get_or places k 0) (get_or patterns k 0)) e

-- of n entries, k is the first that takes
pub record First (takes : ℕ → Bool) (n k : ℕ) : Type 0 where
  pub below : k < n
  pub takes_it : takes k ≡ true
  pub before : NoneBefore takes k

unfoldable pub FirstIs : (takes : ℕ → Bool) (n : ℕ) → Option ℕ → Type 0
FirstIs takes n (Some k) = First takes n k
FirstIs takes n None = NoneBefore takes n

-- the number that is listed for an exit: 0 if none of n entries takes it, and else one exit more than to the first that does
pub data Listed (takes : ℕ → Bool) (dist : ℕ → ℕ) (n c : ℕ) : Type 0 where
  unmet : c ≡ 0 → NoneBefore takes n → Listed takes dist n c
  met : (k : ℕ) → First takes n k → c ≡ dist k + 1 → Listed takes dist n c

-- the numbers that are listed for exit e of every instruction, that of instruction i at i - 1
pub record Column (w : ℕ) (places patterns distances : List ℕ) (n : ℕ) (ops : List Op) (e : Exit) (cells : List ℕ) : Type 0 where
  pub cell : (i : ℕ) → i < max_instructions
      → Listed (takes_at w places patterns (get_or ops i blank) (suc i) e) (λ k. get_or distances k 0) n (get_or cells i 0)

-- what is listed for both exits of every instruction
pub record ExitsOf (w : ℕ) (places patterns distances : List ℕ) (n : ℕ) (ops : List Op) (r : Distances) : Type 0 where
  pub p : Column w places patterns distances n ops p_exit r.p
  pub m : Column w places patterns distances n ops m_exit r.m
