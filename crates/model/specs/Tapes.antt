-- Tapes in one row: the records of the next tape follow directly after it, tape 1 first (document 01, "Runs" and the samples).
use Rattle.std.specs.Prelude.{List, [], ◌∷◌, ℕ, ◌+◌, ℤ, take, drop}

-- the tapes of these lengths
abbrev pub tapes_in : List ℕ → List ℤ → List (List ℤ)
tapes_in [] row = []
tapes_in (n ∷ lengths) row = take n row ∷ tapes_in lengths (drop n row)

-- what lengths add up to
unfoldable pub total : List ℕ → ℕ
total [] = 0
total (n ∷ lengths) = n + total lengths
