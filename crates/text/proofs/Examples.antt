-- Numbers, lines and fields of small texts, computed by the definitions. One result covers the table.
use mathlib.Core.Path.{◌≡◌, refl}
use mathlib.Core.Bool.{true, false}
use mathlib.Core.List.{List, [], ◌∷◌, map}
use Rattle.std.specs.Prelude.{Option, None, Some}
use Prim.Native.Nat.{ℕ}
use lib.IntN.{ℤ, pos, negsuc}
use lib.ListN.{replicate}
use Rattle.text.specs.Split.{lead, parts, lines, split}
use Rattle.text.specs.Number.{digits_after, natural, negative, numeral}

-- what a definition says, and what it ought to say
pub data Said : Type 0 where
  number : Option ℤ → Said
  divided : List (List ℕ) → Said

pub record NumberCase : Type 0 where
  pub says : Said
  pub ought : Said

-- a text as a field with and without the right to a minus
abbrev signed : List ℕ → Option ℤ → NumberCase
signed text z = record { says = number (numeral true text); ought = number z }

abbrev unsigned : List ℕ → Option ℤ → NumberCase
unsigned text z = record { says = number (numeral false text); ought = number z }

abbrev lines_of : List ℕ → List (List ℕ) → NumberCase
lines_of text ls = record { says = divided (lines text); ought = divided ls }

abbrev fields_of : List ℕ → List (List ℕ) → NumberCase
fields_of line fs = record { says = divided (split line); ought = divided fs }

abbrev pub number_cases : List NumberCase
number_cases =
    -- 0, -0, 00, 01, -01, a minus alone, nothing, +1
    signed (48 ∷ []) (Some (pos 0))
    ∷ signed (45 ∷ 48 ∷ []) None
    ∷ unsigned (48 ∷ 48 ∷ []) None
    ∷ unsigned (48 ∷ 49 ∷ []) None
    ∷ signed (45 ∷ 48 ∷ 49 ∷ []) None
    ∷ signed (45 ∷ []) None
    ∷ signed [] None
    ∷ signed (43 ∷ 49 ∷ []) None
    -- -7 where a minus may stand and where it may not, 1000, ten to the power of 19
    ∷ signed (45 ∷ 55 ∷ []) (Some (negsuc 6))
    ∷ unsigned (45 ∷ 55 ∷ []) None
    ∷ unsigned (49 ∷ 48 ∷ 48 ∷ 48 ∷ []) (Some (pos 1000))
    ∷ unsigned (49 ∷ replicate 19 48) (Some (pos 10000000000000000000))
    -- a,, has three fields, and nothing has one; two bytes 10 end two lines, and without a byte 10 the rest is a line
    ∷ fields_of (97 ∷ 44 ∷ 44 ∷ []) ((97 ∷ []) ∷ [] ∷ [] ∷ [])
    ∷ fields_of [] ([] ∷ [])
    ∷ lines_of (97 ∷ 10 ∷ 10 ∷ []) ((97 ∷ []) ∷ [] ∷ [])
    ∷ lines_of (97 ∷ 10 ∷ 98 ∷ []) ((97 ∷ []) ∷ (98 ∷ []) ∷ [])
    ∷ []

pub number-table : map (λ (c : NumberCase). c.says) number_cases ≡ map (λ (c : NumberCase). c.ought) number_cases
unfolding numeral negative natural digits_after lines split parts lead
number-table = refl
