-- Values of a search: how many there are from C1 to C2, the whole number that each stands for, and those that are tried as records.
use Rattle.std.specs.Prelude.{◌≡◌, ℕ, ◌+◌, ◌≤◌, ℤ, pos, negsuc, ◌+ℤ◌}
use Rattle.model.specs.Inner.Integers.{up, dn, Inside}
use Rattle.pattern_word.specs.Inner.Pattern.{Width}

-- lo to hi are w whole numbers, 0 among them
pub record Span (lo hi : ℤ) (w : ℕ) : Type 0 where
  pub width : Width w
  pub zero : Inside lo hi (pos 0)
  pub edge : up lo + w + dn hi ≡ up hi + 1 + dn lo

-- the whole number that the value x of a search stands for: `low`, 16, stands for lo
abbrev pub real : ℤ → ℕ → ℤ
real lo x = (lo +ℤ negsuc 15) +ℤ pos x

-- trial records reach 9 beyond C1 and C2: two for each of four variables, and one
pub record Trial (w y : ℕ) : Type 0 where
  pub first : 7 ≤ y
  pub last : y ≤ w + 24
