-- Which record a read gets. A *wish* is any valuation with the pattern of the next configuration. The record is chosen so that the values,
-- with the record in the variable that is read, get this pattern too.
use Rattle.std.specs.Prelude.{Option, option_map, unwrap_or, cond, List, ℕ, ℤ, pos, get_or, set, position}
use Rattle.std.specs.Int.Signed.{lt_z}
use Rattle.std.specs.Ordering.{int_eq}
use Rattle.model.specs.Inner.Runs.{furthest}
use Rattle.sample_row.specs.Inner.Moves.{further, outward, moved, Movable}
use Rattle.sample_row.specs.declared.Direction.{Direction}
use Rattle.sample_row.specs.declared.Direction.TheVariants.{Up, Down}
use Rattle.sample_row.specs.declared.Choice.{Choice}
use Rattle.sample_row.specs.declared.Choice.TheVariants.{Take, Between}

-- the first place of y, if there is one
abbrev pub first_at : ℤ → List ℤ → Option ℕ
first_at y = position (λ x. int_eq x y)

-- for a wish y beyond the edge e: the value of a variable whose wish is y; or, if there is none, the number next to the furthest of e and
-- the values whose wish lies before y. The numbers beyond that one move out
unfoldable pub choose_beyond : Direction → (e y : ℤ) → (wish values : List ℤ) → Choice
choose_beyond out e y wish values =
    unwrap_or (option_map (λ i. Take (get_or values i (pos 0))) (first_at y wish)) (Between out (furthest (further out) e y wish values))

unfoldable pub choose : (lo hi y : ℤ) → (wish values : List ℤ) → Choice
choose lo hi y wish values =
    cond (lt_z hi y) (choose_beyond Up hi y wish values) (cond (lt_z y lo) (choose_beyond Down lo y wish values) (Take y))

-- the choice for variable u. Its old value does not count: 0, which lies beyond no edge, takes its place
abbrev pub chosen : (lo hi : ℤ) → (wish values : List ℤ) → (u : ℕ) → Choice
chosen lo hi wish values u = choose lo hi (get_or wish u (pos 0)) (set wish u (pos 0)) (set values u (pos 0))

-- how the numbers so far move, and the record itself
unfoldable pub move_of : Choice → ℤ → ℤ
move_of (Take x) = λ y. y
move_of (Between out m) = moved out m

unfoldable pub record_of : Choice → ℤ
record_of (Take x) = x
record_of (Between out m) = outward out m

abbrev pub Safe : Choice → Type 0
Safe (Take x) = Unit {0}
Safe (Between out m) = Movable m
