-- Digits, and the number that they make. A pattern word is four digits to the radix 65,536, the end bits of a place word three to the radix 2.
use Rattle.std.specs.Prelude.{List, [], ◌∷◌, ℕ, zero, suc, ◌+◌, ◌*◌, ◌/◌, ◌%◌, ◌<◌, get_or}

-- the n lowest digits of x to the radix r, the lowest first
unfoldable pub digits : (r n x : ℕ) → List ℕ
digits r zero x = []
digits r (suc n) x = x % r ∷ digits r n (x / r)

unfoldable pub undigits : (r : ℕ) → List ℕ → ℕ
undigits r [] = 0
undigits r (d ∷ ds) = d + r * undigits r ds

-- every element is below n
abbrev pub Below : ℕ → List ℕ → Type 0
Below n xs = (i : ℕ) → get_or xs i 0 < n
