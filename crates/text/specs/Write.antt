-- How numbers, fields and lines are written (document 01, "The flow text"). Reading takes them back, and there is no second way of
-- writing that is read as the same (proofs/Decimal.antt, proofs/Joined.antt).
use Rattle.std.specs.Prelude.{cond, List, [], ◌∷◌, ◌++◌, reverse, ℕ, zero, suc, eqb, ℤ, pos, negsuc}

-- the digits after these in counting, the last digit first: a 9 turns to 0 and carries
unfoldable pub next : List ℕ → List ℕ
next [] = 49 ∷ []
next (b ∷ bs) = cond (eqb b 57) (48 ∷ next bs) (suc b ∷ bs)

-- the digits of n, the last first, counted up from 0
unfoldable pub counted_digits : ℕ → List ℕ
counted_digits zero = 48 ∷ []
counted_digits (suc n) = next (counted_digits n)

-- a number in digits; a number below 0 has a minus, byte 45, before its size
unfoldable pub decimal : ℕ → List ℕ
decimal n = reverse (counted_digits n)

abbrev pub signed : ℤ → List ℕ
signed (pos n) = decimal n
signed (negsuc n) = 45 ∷ decimal (suc n)

-- fields parted by commas, byte 44
unfoldable pub parted : List (List ℕ) → List ℕ
parted [] = []
parted (f ∷ []) = f
parted (f ∷ g ∷ fs) = f ++ (44 ∷ parted (g ∷ fs))

-- lines, each ended by byte 10
unfoldable pub ended : List (List ℕ) → List ℕ
ended [] = []
ended (l ∷ ls) = l ++ (10 ∷ ended ls)
