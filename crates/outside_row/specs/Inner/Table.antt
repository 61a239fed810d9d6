-- The row in which a search looks outside patterns up, either way: from the index of an entry to its ranks, and from ranks to the index.
-- In it a rank is a number from 0 to 7, and an entry's ranks are the digits of a number to the radix 8.
use Rattle.std.specs.Prelude.{◌≡◌, Bool, true, false, cond, ◌&&◌, List, [], ◌∷◌, map, ℕ, zero, suc, ◌+◌, ◌*◌, ◌-◌, ◌<◌, ◌≤◌, ℤ, pos, negsuc, length, get_or, eqb}
use Rattle.graph.specs.Lists.{In}
use Rattle.outside.specs.Outside.{outside}

-- the number of a signed rank: 1 to 4 are 0 to 3, -1 to -4 are 4 to 7
unfoldable pub rank_number : ℤ → ℕ
rank_number (pos k) = k - 1
rank_number (negsuc k) = 4 + k

-- the outside patterns of v variables, by these numbers
unfoldable pub entries_for : ℕ → List (List ℕ)
entries_for v = map (map rank_number) (outside v)

-- an entry of the table for so many variables
pub record IsEntry (l : List ℕ) : Type 0 where
  pub some : 1 ≤ length l
  pub few : length l ≤ 4
  pub is : In l (entries_for (length l))

-- an entry as one number, the first rank its lowest digit
unfoldable pub key_of : List ℕ → ℕ
key_of [] = 0
key_of (b ∷ l) = b + 8 * key_of l

-- where the row holds the index of an entry: as its key, with digits from 1 to 8, so that entries of different lengths stay apart
unfoldable pub slot_of : List ℕ → ℕ
slot_of [] = 0
slot_of (b ∷ l) = suc (b + 8 * slot_of l)

-- where the row holds the keys of the entries of v variables
unfoldable pub first_of : ℕ → ℕ
first_of zero = 4681
first_of (suc zero) = 4681
first_of (suc (suc zero)) = 4683
first_of (suc (suc (suc zero))) = 4691
first_of (suc (suc (suc (suc zero)))) = 4735
first_of (suc (suc (suc (suc (suc v))))) = 5043

-- entry n of the table for v variables
pub record HasEntry (v n : ℕ) : Type 0 where
  pub some : 1 ≤ v
  pub few : v ≤ 4
  pub below : n < length (entries_for v)

-- the row: for each entry its index and its key
pub record IsTable (row : List ℕ) : Type 0 where
  pub size : length row ≡ 5043
  pub index : (v n : ℕ) → HasEntry v n → get_or row (slot_of (get_or (entries_for v) n [])) 0 ≡ n
  pub key : (v n : ℕ) → HasEntry v n → get_or row (first_of v + n) 0 ≡ key_of (get_or (entries_for v) n [])

-- ---- what is looked up
-- the key of entry n for v variables, 0 past the last
unfoldable pub key_at : (v n : ℕ) → ℕ
key_at v n = key_of (get_or (entries_for v) n [])

unfoldable pub alike : List ℕ → List ℕ → Bool
alike [] [] = true
alike [] (y ∷ s) = false
alike (x ∷ r) [] = false
alike (x ∷ r) (y ∷ s) = eqb x y && alike r s

-- the index of an entry: the first place at which it stands
unfoldable pub place_in : List (List ℕ) → List ℕ → ℕ
place_in [] r = 0
place_in (s ∷ t) r = cond (alike s r) 0 (suc (place_in t r))
