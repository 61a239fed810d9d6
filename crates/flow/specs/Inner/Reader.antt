-- What the code keeps of a line and answers on its parts. The number of a line and the counts of line 1 are kept in a byte, the numbers of a row
-- up to 100,000: a larger one is given as one that is past every range too, so that it changes no answer (proofs/ClampLaws.antt).
use Rattle.std.specs.Prelude.{cond, map, ℕ, min, ◌≤◌, ℤ, pos, negsuc}
use Rattle.std.specs.Int.Signed.{lt_z}
use Rattle.model.specs.Language.{Instruction, Field, tape, output, variable, target, constant}
use Rattle.flow.specs.Limits.{max_tapes, max_outputs, max_variables}
use Rattle.flow.specs.declared.Sort.{Sort}
use Rattle.flow.specs.declared.Sort.TheVariants.{Target, Tape, Output, Variable, Constant}
use Rattle.flow.specs.Words.{count}
use Rattle.flow.specs.Code.{kind, numbers, row}
use Rattle.flow.specs.declared.Head.{Head}
use Rattle.flow.specs.declared.Instruction.{Instruction as Row}

abbrev pub small : ℕ → ℕ
small n = min n 255

unfoldable pub bounded : ℤ → ℤ
bounded z = cond (lt_z z (negsuc 99999)) (negsuc 99999) (cond (lt_z (pos 100000) z) (pos 100000) z)

-- the row that is kept of an instruction
abbrev pub clamped : Instruction → Row
clamped x = row (kind x) (map bounded (numbers x))

-- the field of a sort that holds a number
abbrev pub field : Sort → ℤ → Field
field Tape z = tape (count z)
field Output z = output (count z)
field Variable z = variable (count z)
field Target z = target (count z)
field Constant z = constant z

-- a row has four numbers
abbrev pub max_numbers : ℕ
max_numbers = 4

-- the counts of a line 1 that was read
pub record HeadFits (h : Head) : Type 0 where
  pub tapes : (1 ≤ h.tapes) × (h.tapes ≤ max_tapes)
  pub outputs : h.outputs ≤ max_outputs
  pub variables : (1 ≤ h.variables) × (h.variables ≤ max_variables)
