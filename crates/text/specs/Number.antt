-- How a number is written (document 01, "The flow text"): "one digit or more, with no plus sign and, unless it is 0 itself, no
-- leading zero; only a constant may have a minus; -0 is badly written". A number is read at its full size; `None` is badly written.
use Rattle.std.specs.Prelude.{Bool, cond, ◌&&◌, List, [], ◌∷◌, ℕ, zero, suc, ◌+◌, ◌-◌, ◌*◌, leb, eqb, ℤ, pos, negsuc}
use Rattle.std.specs.Prelude.{Option, None, Some, option_map}

-- the digits are bytes 48 to 57
abbrev pub is_digit : ℕ → Bool
is_digit b = leb 48 b && leb b 57

-- the number that the digits of n make with those of the text behind them
unfoldable pub digits_after : ℕ → List ℕ → Option ℕ
digits_after n [] = Some n
digits_after n (b ∷ bs) = cond (is_digit b) (digits_after (n * 10 + (b - 48)) bs) None

-- one digit or more; the first is no 0 unless it is the only one
unfoldable pub natural : List ℕ → Option ℕ
natural [] = None
natural (b ∷ []) = digits_after 0 (b ∷ [])
natural (b ∷ d ∷ bs) = cond (eqb b 48) None (digits_after 0 (b ∷ d ∷ bs))

-- a size behind a minus
unfoldable pub negative : Option ℕ → Option ℤ
negative None = None
negative (Some zero) = None
negative (Some (suc n)) = Some (negsuc n)

-- the number of a field; `minus` says whether a minus, byte 45, may stand first
unfoldable pub numeral : Bool → List ℕ → Option ℤ
numeral minus [] = None
numeral minus (b ∷ bs) = cond (eqb b 45) (cond minus (negative (natural bs)) None) (option_map pos (natural (b ∷ bs)))
