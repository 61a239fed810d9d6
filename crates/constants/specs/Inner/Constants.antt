-- Constants: the one that an instruction names, and how far a constant lies above C1, which is its code in a search.
use Rattle.std.specs.Prelude.{ℕ, ℤ, pos, ◌-ℤ◌, get_or}
use Rattle.model.specs.Language.{Instruction, fields, constants}
use Rattle.model.specs.Inner.Integers.{up}

-- how far c lies above lo: the code of a constant
unfoldable pub offset : (c lo : ℤ) → ℕ
offset c lo = up (c -ℤ lo)

-- the constant that an instruction names, 0 if it names none
abbrev pub constant_in : Instruction → ℤ
constant_in x = get_or (constants (fields x)) 0 (pos 0)
