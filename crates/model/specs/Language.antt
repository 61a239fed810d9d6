-- The base language L0 of Barzdin, Bicevskis and Kalninsh (document 000): its instructions, and a flow, which is a program of them.
-- Tapes, outputs, variables and instructions carry the numbers of document 01, counted from 1.
use Rattle.std.specs.Prelude.{Bool, true, false, cond, List, [], ◌∷◌, ◌++◌, ℕ, ℤ, pos, get_or}
use Rattle.std.specs.Int.Signed.{lt_z}

-- an instruction (document 01, the table of instructions); `const` is its `set`
pub data Instruction : Type 0 where
  read : (a v p m : ℕ) → Instruction
  put : (v y n : ℕ) → Instruction
  copy : (u v n : ℕ) → Instruction
  const : (c : ℤ) (v n : ℕ) → Instruction
  less : (u v p m : ℕ) → Instruction
  over : (c : ℤ) (v p m : ℕ) → Instruction
  under : (v : ℕ) (c : ℤ) (p m : ℕ) → Instruction
  nop : (n : ℕ) → Instruction
  stop : Instruction

-- a flow: the input tapes T, output tapes O and inner variables V of its line 1, and its instructions in the order of their lines
pub record Flow : Type 0 where
  pub tapes : ℕ
  pub outputs : ℕ
  pub variables : ℕ
  pub instructions : List Instruction

-- instruction number i; a number that names none counts as `stop`
abbrev pub instruction : Flow → ℕ → Instruction
instruction flow i = get_or (stop ∷ flow.instructions) i stop

-- whether an instruction has two exits: a read or a comparison
abbrev pub has_exits : Instruction → Bool
has_exits (read a v p m) = true
has_exits (put v y n) = false
has_exits (copy u v n) = false
has_exits (const c v n) = false
has_exits (less u v p m) = true
has_exits (over c v p m) = true
has_exits (under v c p m) = true
has_exits (nop n) = false
has_exits stop = false

-- what a field of an instruction's line names
pub data Field : Type 0 where
  tape output variable target : ℕ → Field
  constant : ℤ → Field

-- the fields after the word, in the order of the line
abbrev pub fields : Instruction → List Field
fields (read a v p m) = tape a ∷ variable v ∷ target p ∷ target m ∷ []
fields (put v y n) = variable v ∷ output y ∷ target n ∷ []
fields (copy u v n) = variable u ∷ variable v ∷ target n ∷ []
fields (const c v n) = constant c ∷ variable v ∷ target n ∷ []
fields (less u v p m) = variable u ∷ variable v ∷ target p ∷ target m ∷ []
fields (over c v p m) = constant c ∷ variable v ∷ target p ∷ target m ∷ []
fields (under v c p m) = variable v ∷ constant c ∷ target p ∷ target m ∷ []
fields (nop n) = target n ∷ []
fields stop = []

-- the constants among fields, and those of a flow
unfoldable pub constants : List Field → List ℤ
constants [] = []
constants (tape n ∷ fs) = constants fs
constants (output n ∷ fs) = constants fs
constants (variable n ∷ fs) = constants fs
constants (target n ∷ fs) = constants fs
constants (constant c ∷ fs) = c ∷ constants fs

unfoldable pub all_constants : List Instruction → List ℤ
all_constants [] = []
all_constants (x ∷ xs) = constants (fields x) ++ all_constants xs

-- the least and the greatest of 0 and some constants
unfoldable pub least : List ℤ → ℤ
least [] = pos 0
least (c ∷ cs) = cond (lt_z c (least cs)) c (least cs)

unfoldable pub greatest : List ℤ → ℤ
greatest [] = pos 0
greatest (c ∷ cs) = cond (lt_z (greatest cs) c) c (greatest cs)

-- the basic constants are 0 and every constant in the flow; C1 is the least of them, C2 the greatest
unfoldable pub C1 : Flow → ℤ
C1 flow = least (all_constants flow.instructions)

unfoldable pub C2 : Flow → ℤ
C2 flow = greatest (all_constants flow.instructions)
