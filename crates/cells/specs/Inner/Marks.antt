-- The marks of an entry: one bit for each variable.
use Rattle.std.specs.Prelude.{◌≡◌, Bool, false, List, ℕ, ◌/◌, ◌%◌, ◌^◌, ◌≤◌, ◌<◌, eqb, get_or, set}
use Rattle.std.specs.Int.Bits.{bit_or}

-- entry i is marked for variable v
unfoldable pub is_marked : List ℕ → ℕ → ℕ → Bool
is_marked fans i v = eqb (get_or fans i 0 / 2 ^ v % 2) 1

-- the marks with entry i marked for variable v
unfoldable pub marking : List ℕ → ℕ → ℕ → List ℕ
marking fans i v = set fans i (bit_or (get_or fans i 0) (2 ^ v))

-- entries are added, from count to n of them: none of them is marked, and those before are marked as they were
pub record Unmarked (fans fans' : List ℕ) (count n : ℕ) : Type 0 where
  pub old : (i v : ℕ) → i < count → is_marked fans' i v ≡ is_marked fans i v
  pub new : (i v : ℕ) → count ≤ i → i < n → is_marked fans' i v ≡ false
