-- A prepared instruction, as a search uses it: five actions for nine words, variables and tapes counted from 0, and a constant as its code.
-- A term, the left or right side of a comparison or what is assigned, is a variable, counted from 0, and from `max_variables` on the constant.
use Rattle.std.specs.Prelude.{ℕ, ◌-◌, ℤ}
use Rattle.model.specs.Language.{Instruction, read, put, copy, const, less, over, under, nop, stop}
use Rattle.flow.specs.Limits.{max_variables}
use Rattle.constants.specs.Inner.Constants.{offset}
use Rattle.configuration.specs.declared.Op.{Op}
use Rattle.configuration.specs.declared.Action.TheVariants.{Read, Assign, Test, Go, Stop}

-- the five forms; what a form does not use is 0
abbrev pub read_op : (tape variable p m : ℕ) → Op
read_op a v p m = record { action = Read; tape = a; variable = v; left = 0; right = 0; constant = 0; p = p; m = m }

abbrev pub assign_op : (term variable constant n : ℕ) → Op
assign_op x v c n = record { action = Assign; tape = 0; variable = v; left = x; right = 0; constant = c; p = n; m = 0 }

abbrev pub test_op : (left right constant p m : ℕ) → Op
test_op x y c p m = record { action = Test; tape = 0; variable = 0; left = x; right = y; constant = c; p = p; m = m }

abbrev pub go_op : (n : ℕ) → Op
go_op n = record { action = Go; tape = 0; variable = 0; left = 0; right = 0; constant = 0; p = n; m = 0 }

abbrev pub stop_op : Op
stop_op = record { action = Stop; tape = 0; variable = 0; left = 0; right = 0; constant = 0; p = 0; m = 0 }

unfoldable pub op_of : (lo : ℤ) → Instruction → Op
op_of lo (read a v p m) = read_op (a - 1) (v - 1) p m
op_of lo (put v y n) = go_op n
op_of lo (copy u v n) = assign_op (u - 1) (v - 1) 0 n
op_of lo (const c v n) = assign_op max_variables (v - 1) (offset c lo) n
op_of lo (less u v p m) = test_op (u - 1) (v - 1) 0 p m
op_of lo (over c v p m) = test_op max_variables (v - 1) (offset c lo) p m
op_of lo (under v c p m) = test_op (v - 1) max_variables (offset c lo) p m
op_of lo (nop n) = go_op n
op_of lo stop = stop_op
