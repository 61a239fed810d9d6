-- The row while it is filled: the entries go in one after another, in the order of their keys' places.
use Rattle.std.specs.Prelude.{◌≡◌, List, [], ℕ, zero, suc, ◌+◌, ◌*◌, ◌<◌, length, get_or}
use Rattle.outside_row.specs.Inner.Table.{entries_for, key_of, slot_of, first_of, HasEntry}

-- the entries whose keys stand before place `at` are in the row
pub record LoadedTo (at : ℕ) (row : List ℕ) : Type 0 where
  pub size : length row ≡ 5043
  pub index : (v n : ℕ) → HasEntry v n → first_of v + n < at → get_or row (slot_of (get_or (entries_for v) n [])) 0 ≡ n
  pub key : (v n : ℕ) → HasEntry v n → first_of v + n < at → get_or row (first_of v + n) 0 ≡ key_of (get_or (entries_for v) n [])

-- by how much the slot of an entry of v ranks exceeds its key
unfoldable pub ones_of : ℕ → ℕ
ones_of zero = 0
ones_of (suc v) = 1 + 8 * ones_of v
