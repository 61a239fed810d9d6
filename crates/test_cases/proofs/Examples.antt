-- The cases of small files, computed by the definition.
use mathlib.Core.Path.{◌≡◌, refl}
use Prim.Native.Nat.{ℕ}
use Rattle.text.specs.Bytes.{bytes}
use Rattle.text.specs.Inner.Divided.{until}
use Rattle.test_cases.specs.Cases.{Places, before_empty, next_case}

abbrev case : ℕ → ℕ → ℕ → Places
case n s e = record { named = n; start = s; end = e }

-- a text of two lines, with a second case behind it
pub two_line_case : next_case (bytes "a\n1,x\n2\n\nb\n3\n") 0 ≡ case 1 2 8
unfolding next_case until before_empty
two_line_case = refl

-- that second case, which no empty line ends
pub last_case : next_case (bytes "a\n1,x\n2\n\nb\n3\n") 9 ≡ case 10 11 13
unfolding next_case until before_empty
last_case = refl

-- no text, a name without an end, and a place past the end
pub no_text : next_case (bytes "a\n\n") 0 ≡ case 1 2 2
unfolding next_case until before_empty
no_text = refl

pub name-only : next_case (bytes "ab") 0 ≡ case 2 2 2
unfolding next_case until before_empty
name-only = refl

pub past_the_end : next_case (bytes "ab") 5 ≡ case 5 5 5
unfolding next_case until before_empty
past_the_end = refl
