-- Instructions prepared for a search, from the rows that hold them.
use Rattle.std.specs.Prelude.{◌≡◌, Bool, true, false, not, List, map, ℕ, ◌-◌, ◌≤◌, get_or}
use Rattle.flow.specs.Limits.{max_variables}
use Rattle.flow.specs.Words.{sorts, may_minus, count, at}
use Rattle.flow.specs.declared.Instruction.{Instruction as Row}
use Rattle.flow.specs.declared.Sort.{Sort}
use Rattle.flow.specs.declared.Kind.{Kind}
use Rattle.flow.specs.declared.Kind.TheVariants.{Read, Put, Copy, Set, Less, Over, Under, Nop, Stop}
use Rattle.flow.specs.Inner.Rows.{numbers_in}
use Rattle.configuration.specs.Inner.Op.{read_op, assign_op, test_op, go_op, stop_op}
use Rattle.configuration.specs.declared.Op.{Op}

-- whether field j of a kind is a count, and rows whose counts fit a byte
abbrev pub is_count : List Sort → ℕ → Bool
is_count ss j = get_or (map (λ s. not (may_minus s)) ss) j false

abbrev pub FitBytes : Row → Type 0
FitBytes x = (j : ℕ) → is_count (sorts x.kind) j ≡ true → count (at (numbers_in x) j) ≤ 255

-- the prepared form of a kind, from the numbers of the line as counts, and the first two as constants that are prepared already
abbrev pub formed : Kind → (a b c d u v : ℕ) → Op
formed Read a b c d u v = read_op (a - 1) (b - 1) c d
formed Put a b c d u v = go_op c
formed Copy a b c d u v = assign_op (a - 1) (b - 1) 0 c
formed Set a b c d u v = assign_op max_variables (b - 1) u c
formed Less a b c d u v = test_op (a - 1) (b - 1) 0 c d
formed Over a b c d u v = test_op max_variables (b - 1) u c d
formed Under a b c d u v = test_op (a - 1) max_variables v c d
formed Nop a b c d u v = go_op a
formed Stop a b c d u v = stop_op
