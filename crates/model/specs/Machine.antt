-- A run of a flow (document 01, "Distances and configurations"): it is fed finite tapes of whole numbers of any size,
-- has no step limit, and its outputs never fill. This one step serves runs, configurations and samples.
use Rattle.std.specs.Prelude.{Bool, true, false, cond, List, [], ◌∷◌, ℕ, zero, suc, ◌-◌, ℤ, pos, get_or, set, replicate}
use Rattle.std.proofs.Math.Option.{Option, none, some}
use Rattle.std.specs.Int.Signed.{lt_z}
use Rattle.model.specs.Language.{Instruction, read, put, copy, const, less, over, under, nop, stop, Flow, instruction}

-- the next instruction, the variables, what is left of each tape, and the tapes on which a read has met the end
pub record State : Type 0 where
  pub next : ℕ
  pub variables : List ℤ
  pub left : List (List ℤ)
  pub ended : List Bool

-- variable number u, and what is left of tape number a
abbrev pub value : State → ℕ → ℤ
value s u = get_or s.variables (u - 1) (pos 0)

abbrev pub tape_left : State → ℕ → List ℤ
tape_left s a = get_or s.left (a - 1) []

-- on to instruction n
abbrev pub go_to : ℕ → State → State
go_to n s = record { next = n; variables = s.variables; left = s.left; ended = s.ended }

-- x to variable v, and on to n
abbrev pub assign : ℕ → ℤ → ℕ → State → State
assign v x n s = record { next = n; variables = set s.variables (v - 1) x; left = s.left; ended = s.ended }

-- the next record of tape a to variable v, and on to p; where there is none the tape's end is met, v keeps its value, and on to m
abbrev pub read_from : List ℤ → (a v p m : ℕ) → State → State
read_from [] a v p m s = record { next = m; variables = s.variables; left = s.left; ended = set s.ended (a - 1) true }
read_from (x ∷ rest) a v p m s = record { next = p; variables = set s.variables (v - 1) x; left = set s.left (a - 1) rest; ended = s.ended }

-- what each instruction does (document 01, the table of instructions); at `stop` the run has ended and nothing changes
abbrev pub step_by : Instruction → State → State
step_by (read a v p m) s = read_from (tape_left s a) a v p m s
step_by (put v y n) s = go_to n s
step_by (copy u v n) s = assign v (value s u) n s
step_by (const c v n) s = assign v c n s
step_by (less u v p m) s = go_to (cond (lt_z (value s u) (value s v)) p m) s
step_by (over c v p m) s = go_to (cond (lt_z c (value s v)) p m) s
step_by (under v c p m) s = go_to (cond (lt_z (value s v) c) p m) s
step_by (nop n) s = go_to n s
step_by stop s = s

-- the two exits of a read or a comparison, named p and m
pub data Exit : Type 0 where
  p_exit m_exit : Exit

abbrev pub exit_if : Bool → Exit
exit_if true = p_exit
exit_if false = m_exit

abbrev pub has_record : List ℤ → Bool
has_record [] = false
has_record (x ∷ rest) = true

-- the exit that an instruction takes: of a read p if its tape has a record left, of a comparison p if it holds
abbrev pub exit_by : Instruction → State → Option Exit
exit_by (read a v p m) s = some (exit_if (has_record (tape_left s a)))
exit_by (put v y n) s = none
exit_by (copy u v n) s = none
exit_by (const c v n) s = none
exit_by (less u v p m) s = some (exit_if (lt_z (value s u) (value s v)))
exit_by (over c v p m) s = some (exit_if (lt_z c (value s v)))
exit_by (under v c p m) s = some (exit_if (lt_z (value s v) c))
exit_by (nop n) s = none
exit_by stop s = none

-- one step of the run, and the exit that it takes
abbrev pub step : Flow → State → State
step flow s = step_by (instruction flow s.next) s

abbrev pub exit_of : Flow → State → Option Exit
exit_of flow s = exit_by (instruction flow s.next) s

-- the start: instruction 1, every variable 0, every tape at its first record, no end met
abbrev pub start : Flow → List (List ℤ) → State
start flow tapes = record { next = 1; variables = replicate flow.variables (pos 0); left = tapes; ended = replicate flow.tapes false }

-- n steps from a state
abbrev pub steps : Flow → ℕ → State → State
steps flow zero s = s
steps flow (suc n) s = steps flow n (step flow s)

-- the run on the tapes, after n steps
abbrev pub run : Flow → List (List ℤ) → ℕ → State
run flow tapes n = steps flow n (start flow tapes)
