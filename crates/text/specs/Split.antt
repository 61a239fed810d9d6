-- Lines, fields and words of a byte text (document 01, "The flow text"): every line ends with byte 10, the last byte 10 opens
-- no further line; the fields of a line are parted by byte 44, the comma. Bytes are numbers below 256.
use Rattle.std.specs.Prelude.{Bool, true, false, cond, ◌&&◌, List, [], ◌∷◌, ℕ, eqb}

-- the byte x in front of the first part
unfoldable pub lead : ℕ → List (List ℕ) → List (List ℕ)
lead x [] = (x ∷ []) ∷ []
lead x (p ∷ ps) = (x ∷ p) ∷ ps

-- the parts into which byte c divides a text; `end` are those of the empty text
unfoldable pub parts : ℕ → List (List ℕ) → List ℕ → List (List ℕ)
parts c end [] = end
parts c end (x ∷ xs) = cond (eqb x c) ([] ∷ parts c end xs) (lead x (parts c end xs))

-- the lines of a text, without the bytes 10 that end them
unfoldable pub lines : List ℕ → List (List ℕ)
lines text = parts 10 [] text

-- the fields of a line: one more than it has commas
unfoldable pub split : List ℕ → List (List ℕ)
split line = parts 44 ([] ∷ []) line

-- whether two words are the same
unfoldable pub same_word : List ℕ → List ℕ → Bool
same_word [] [] = true
same_word [] (y ∷ ys) = false
same_word (x ∷ xs) [] = false
same_word (x ∷ xs) (y ∷ ys) = eqb x y && same_word xs ys
