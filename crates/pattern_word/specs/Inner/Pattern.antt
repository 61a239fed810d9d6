-- The pattern word (document 01, "Distances and configurations"; document 02, T-06). lo is C1, and w says how many whole numbers there are from
-- C1 to C2. A pattern is a code for each of four variables: a code below w is a value, counted from lo; then come ranks 1 to 4 above, then
-- ranks 1 to 4 below. A word stores the codes as four digits of 16 bits: a code below w as it is; of those outside the first as w plus the
-- index of their ranks in the table of outside patterns for so many variables, the others as w.
--
-- A search tries values. In it a value is a natural number: `low` stands for C1, `high w` for C2.
use Rattle.std.specs.Prelude.{Bool, true, false, not, cond, ◌&&◌, ◌||◌, List, [], ◌∷◌, map, ℕ, zero, suc, ◌+◌, ◌*◌, ◌-◌, ◌<◌, ◌≤◌, min, max, ℤ, pos, ◌+ℤ◌, length, get_or, set, drop, leb, ltb, eqb, ◌≡◌}
use Rattle.model.specs.Pattern.{Mark, above, inside, below}
use Rattle.model.specs.Inner.Marks.{less_mark}
use Rattle.outside_row.specs.Inner.Table.{entries_for, place_in}
use Rattle.flow.specs.Limits.{max_variables}
use Rattle.pattern_word.specs.Inner.Digits.{digits, undigits}

-- whole numbers from the least constant to the greatest (document 02, T-09); no legal flow has more from C1 to C2 (configuration/proofs/Fitting.antt)
abbrev pub max_width : ℕ
max_width = 19999

-- there are at least one and at most so many whole numbers from C1 to C2, so that every digit fits its lane
pub record Width (w : ℕ) : Type 0 where
  pub some : 0 < w
  pub few : w ≤ max_width

abbrev pub lane : ℕ
lane = 65536

-- four lanes fill a word of 64 bits
abbrev pub pattern_words : ℕ
pattern_words = lane * (lane * (lane * lane))

-- by how much the codes, or the digits, of the variables outside exceed w: a code by the number of its rank, the first digit by the index
unfoldable pub excess : (w : ℕ) → List ℕ → List ℕ
excess w [] = []
excess w (c ∷ cs) = elim (ltb c w) [ true ↦ excess w cs | false ↦ (c - w) ∷ excess w cs ]

-- the codes stored as digits; n is the digit of the first variable outside
unfoldable pub store_from : (w n : ℕ) → List ℕ → List ℕ
store_from w n [] = []
store_from w n (c ∷ cs) = cond (ltb c w) c n ∷ store_from w (cond (ltb c w) n w) cs

unfoldable pub store_of : (w : ℕ) → List ℕ → List ℕ
store_of w codes = store_from w (w + place_in (entries_for (length (excess w codes))) (excess w codes)) codes

-- the codes that digits store; an entry's ranks are taken one by one
unfoldable pub recall_from : (w : ℕ) → (digits entry : List ℕ) → List ℕ
recall_from w [] l = []
recall_from w (d ∷ ds) l = cond (ltb d w) d (w + get_or l 0 0) ∷ recall_from w ds (cond (ltb d w) l (drop 1 l))

unfoldable pub recall_of : (w : ℕ) → List ℕ → List ℕ
recall_of w ds = recall_from w ds (get_or (entries_for (length (excess w ds))) (get_or (excess w ds) 0 0) [])

-- the codes that the lanes of a pattern word store
abbrev pub lanes : (w pattern : ℕ) → List ℕ
lanes w pattern = recall_of w (digits lane max_variables pattern)

-- what a code says of its variable
unfoldable pub mark_of : (lo : ℤ) (w c : ℕ) → Mark
mark_of lo w c = cond (ltb c w) (inside (lo +ℤ pos c)) (cond (ltb c (w + max_variables)) (above (c + 1 - w)) (below (c + 1 - (w + max_variables))))

-- ---- values
abbrev pub low : ℕ
low = 16

abbrev pub high : ℕ → ℕ
high w = 15 + w

-- the value that a trial uses for a code: rank k beyond an edge stands 2 k from it, so that there is room between any two
unfoldable pub value_of : (w c : ℕ) → ℕ
value_of w c = cond (ltb c w) (low + c) (cond (ltb c (w + max_variables)) (high w + 2 * (c + 1 - w)) (low - 2 * (c + 1 - (w + max_variables))))

unfoldable pub values_of : (w : ℕ) → List ℕ → List ℕ
values_of w codes = map (value_of w) codes

abbrev pub within : (p q x : ℕ) → Bool
within p q x = leb p x && leb x q

unfoldable pub member : ℕ → List ℕ → Bool
member x [] = false
member x (y ∷ ys) = eqb x y || member x ys

-- how many different values lie from p to q: a rank above counts from C2 + 1 up to the value, a rank below from the value up to C1 - 1
unfoldable pub different_within : (p q : ℕ) → List ℕ → ℕ
different_within p q [] = 0
different_within p q (x ∷ xs) = cond (within p q x && not (member x xs)) (suc (different_within p q xs)) (different_within p q xs)

-- the code of x, one of the values
unfoldable pub lane_code : (w : ℕ) → List ℕ → ℕ → ℕ
lane_code w values x = cond (ltb (high w) x) (w + different_within (suc (high w)) x values - 1) (cond (ltb x low) (w + (max_variables - 1) + different_within x (low - 1) values) (x - low))

unfoldable pub codes_of : (w : ℕ) → List ℕ → List ℕ
codes_of w values = map (lane_code w values) values

-- codes that are those of four values
pub record AreCodes (w : ℕ) (codes : List ℕ) : Type 0 where
  pub values : List ℕ
  pub four : length values ≡ max_variables
  pub is : codes ≡ codes_of w values

-- the pattern word of values
unfoldable pub word_of : (w : ℕ) → List ℕ → ℕ
word_of w values = undigits lane (store_of w (codes_of w values))

-- ---- what a search does with a pattern word
-- whether the value of code c is less than that of code d: the nine cases of their marks. C1 is taken as 0; any other that a flow
-- can have gives the same (proofs/Marks.antt, `less-any-lo`)
unfoldable pub less_of : (w c d : ℕ) → Bool
less_of w c d = less_mark (mark_of (pos 0) w c) (mark_of (pos 0) w d)

-- the word when variable v gets the value y
unfoldable pub assign_of : (w pattern v y : ℕ) → ℕ
assign_of w pattern v y = word_of w (set (values_of w (lanes w pattern)) v y)

-- the least of n and the values, and the greatest
unfoldable pub least_of : ℕ → List ℕ → ℕ
least_of n [] = n
least_of n (x ∷ xs) = min x (least_of n xs)

unfoldable pub greatest_of : ℕ → List ℕ → ℕ
greatest_of n [] = n
greatest_of n (x ∷ xs) = max x (greatest_of n xs)

-- the first and the last record that a fan is tried with: one below C1 and all values, and one above C2 and all values. Those farther out give
-- the same words (proofs/Trials.antt)
abbrev pub first_trial : List ℕ → ℕ
first_trial values = least_of low values - 1

abbrev pub last_trial : ℕ → List ℕ → ℕ
last_trial w values = suc (greatest_of (high w) values)

-- 1 in lane v
unfoldable pub unit_of : ℕ → ℕ
unit_of zero = 1
unit_of (suc v) = lane * unit_of v

-- a pattern word is that of some values: the values of its codes have the same word again
abbrev pub Valid : (w pattern : ℕ) → Type 0
Valid w pattern = word_of w (values_of w (lanes w pattern)) ≡ pattern
