-- The numbers of refusals: they lie from 1 to 15. No number is 2, since no bytes are a flow (document 02, T-08), and none is 4, where 13,
-- 14 and 15 stand now (T-02).
use mathlib.Core.Path.{◌≡◌}
use Prim.Native.Nat.{◌≤◌}
use native.Mathlib.Omega.{arith}
use Rattle.flow.specs.Refusals.{number_of}
use Rattle.flow.specs.declared.Refusal.{Refusal}
use Rattle.flow.specs.declared.Refusal.TheVariants.{TooLong, NoLastEnd, UnknownWord, WrongCount, BadNumber, OutOfRange, OutOfTurn, NoSuchTarget, TooManyLines, NoInstruction, TooFewCells, ShortRow, NoSuchExit, WrongTapes}

numbered : (why : Refusal) → (1 ≤ number_of why) × (number_of why ≤ 15) × (number_of why ≡ 2 → ⊥) × (number_of why ≡ 4 → ⊥)
numbered TooLong = (omega arith, omega arith, (λ e. omega arith), λ e. omega arith)
numbered NoLastEnd = (omega arith, omega arith, (λ e. omega arith), λ e. omega arith)
numbered (UnknownWord line) = (omega arith, omega arith, (λ e. omega arith), λ e. omega arith)
numbered (WrongCount line) = (omega arith, omega arith, (λ e. omega arith), λ e. omega arith)
numbered (BadNumber line) = (omega arith, omega arith, (λ e. omega arith), λ e. omega arith)
numbered (OutOfRange line) = (omega arith, omega arith, (λ e. omega arith), λ e. omega arith)
numbered (OutOfTurn line) = (omega arith, omega arith, (λ e. omega arith), λ e. omega arith)
numbered (NoSuchTarget line) = (omega arith, omega arith, (λ e. omega arith), λ e. omega arith)
numbered TooManyLines = (omega arith, omega arith, (λ e. omega arith), λ e. omega arith)
numbered NoInstruction = (omega arith, omega arith, (λ e. omega arith), λ e. omega arith)
numbered TooFewCells = (omega arith, omega arith, (λ e. omega arith), λ e. omega arith)
numbered ShortRow = (omega arith, omega arith, (λ e. omega arith), λ e. omega arith)
numbered NoSuchExit = (omega arith, omega arith, (λ e. omega arith), λ e. omega arith)
numbered WrongTapes = (omega arith, omega arith, (λ e. omega arith), λ e. omega arith)

pub number-first : (why : Refusal) → 1 ≤ number_of why
number-first why = (numbered why).0

pub number-last : (why : Refusal) → number_of why ≤ 15
number-last why = (numbered why).1

-- refusals 2 and 4 do not occur
pub never_two : (why : Refusal) → number_of why ≡ 2 → ⊥
never_two why = (numbered why).2

pub never_four : (why : Refusal) → number_of why ≡ 4 → ⊥
never_four why = (numbered why).3
