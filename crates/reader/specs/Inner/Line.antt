-- One instruction line as the code reads it: before the numbers after its word, and once these are read.
-- With the numbers between them, the two steps give what `read_line` says (`line_steps` of proofs/LineLaws.antt).
use Rattle.std.specs.Prelude.{List, [], ℕ, ◌+◌, eqb, leb, length, get_or, Option, option_map, Result, Ok}
use Rattle.model.specs.Language.{fields}
use Rattle.text.specs.Number.{natural}
use Rattle.flow.specs.Limits.{max_instructions}
use Rattle.flow.specs.Words.{kind_of, sorts}
use Rattle.flow.specs.Read.{check, given, all, in_range}
use Rattle.flow.specs.Inner.Reader.{small}
use Rattle.flow.specs.Inner.Rows.{instruction_of}
use Rattle.flow.specs.declared.Head.{Head}
use Rattle.flow.specs.declared.Instruction.{Instruction as Row}
use Rattle.flow.specs.declared.Refusal.{Refusal}
use Rattle.flow.specs.declared.Refusal.TheVariants.{UnknownWord, WrongCount, BadNumber, OutOfRange, OutOfTurn, TooManyLines}
use Rattle.reader.specs.declared.line.Start.{Start}

-- the number without a minus in field k, as a byte keeps it
abbrev pub small_at : List (List ℕ) → ℕ → Option ℕ
small_at fs k = option_map small (natural (get_or fs k []))

-- what the line of instruction count + 1 shows before the numbers after its word
unfoldable pub begin_line : (count : ℕ) → List (List ℕ) → Result Start Refusal
begin_line count fs =
    check (leb (count + 1) max_instructions) TooManyLines
    (given (kind_of (get_or fs 1 [])) (UnknownWord (count + 2)) (λ k.
    check (eqb (length fs) (length (sorts k) + 2)) (WrongCount (count + 2))
    (given (small_at fs 0) (BadNumber (count + 2)) (λ n.
    Ok (record { kind = k; number = n })))))

-- what it is read as, by its number and its row
unfoldable pub end_line : Head → (count number : ℕ) → Row → Result Row Refusal
end_line h count number x =
    check (eqb number (count + 1)) (OutOfTurn (count + 2))
    (check (all (in_range h) (fields (instruction_of x))) (OutOfRange (count + 2))
    (Ok x))
