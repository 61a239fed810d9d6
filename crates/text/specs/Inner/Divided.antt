-- A line divided into its fields: how many it has, and where the first of them end.
use Rattle.std.specs.Prelude.{◌≡◌, List, [], ◌∷◌, ℕ, zero, suc, ◌+◌, ◌-◌, ◌≤◌, ◌<◌, length, get_or, take, drop, cond, eqb}
use Rattle.text.specs.Split.{split}

-- how many bytes stand before the first byte c, or in all where there is none
unfoldable pub until : ℕ → List ℕ → ℕ
until c [] = 0
until c (x ∷ xs) = cond (eqb x c) 0 (suc (until c xs))

-- the ends of so many fields are kept
abbrev pub kept : ℕ
kept = 6

-- where field k begins: the first at the line's start, each other behind the comma that ends the one before
unfoldable pub begins : List ℕ → ℕ → ℕ
begins ends zero = 0
begins ends (suc k) = get_or ends k 0 + 1

-- field k is the part of the line from where it begins to where it ends
pub record Between (line ends : List ℕ) (k : ℕ) : Type 0 where
  pub ordered : begins ends k ≤ get_or ends k 0
  pub inside : get_or ends k 0 ≤ length line
  pub part : take (get_or ends k 0 - begins ends k) (drop (begins ends k) line) ≡ get_or (split line) k []

-- the line has `count` fields, and `ends` says where the first of them end
pub record Divided (line : List ℕ) (count : ℕ) (ends : List ℕ) : Type 0 where
  pub counted : count ≡ length (split line)
  pub between : (k : ℕ) → k < kept → k < count → Between line ends k
