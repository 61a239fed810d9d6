-- The list of outside patterns, computed: 2, 8, 44 and 308 entries for one to four variables, in rising order; none stands twice. And
-- what holds of rows of listed ranks, any list, that are their own.
use mathlib.Core.Path.{◌≡◌, refl, sym, ap₂, subst}
use mathlib.Core.Bool.{Bool, true, not, ◌&&◌}
use mathlib.Core.List.{List, [], ◌∷◌}
use mathlib.Core.Logic.{inl, inr}
use Prim.Native.Nat.{ℕ}
use lib.IntN.{ℤ}
use lib.ListN.{length}
use lib.Dec.{T, T_not}
use Rattle.graph.specs.Lists.{In, Once}
use Rattle.model.specs.Pattern.{equal, among, different, mark, pattern}
use Rattle.model.specs.Inner.Lists.{All}
use Rattle.model.proofs.Integers.{and_in, and_out, or_left, or_right}
use Rattle.model.proofs.Ranks.{equal_in, equal_out}
use Rattle.outside.specs.Inner.Rows.{rows, keep, led, bind}
use Rattle.outside.specs.Outside.{before, all_pass, rising, ranks_of, same, is_own, eight, outside}
use Rattle.outside.proofs.Rows.{in_rows, rows-length, rows_all, once-rows, keep_in, in_keep, once-keep}

pub outside-numbers : (length (outside 1) ≡ 2) × (length (outside 2) ≡ 8) × (length (outside 3) ≡ 44) × (length (outside 4) ≡ 308)
unfolding outside is_own same eight keep rows led bind ranks_of pattern mark different among
outside-numbers = (refl, refl, refl, refl)

pub rises : T (rising (outside 1)) × T (rising (outside 2)) × T (rising (outside 3)) × T (rising (outside 4))
unfolding rising all_pass before outside is_own same eight keep rows led bind ranks_of pattern mark different among
rises = (tt, tt, tt, tt)

-- ---- nothing stands twice in a list of whole numbers: a test
pub in_among : (x : ℤ) (l : List ℤ) → In x l → T (among x l)
unfolding among
in_among x (y ∷ l) (inl e) = or_left (equal x y) (among x l) (equal_out x y e)
in_among x (y ∷ l) (inr h) = or_right (equal x y) (among x l) (in_among x l h)
in_among x [] x'' = elim x'' [ ]

unfoldable pub distinct : List ℤ → Bool
distinct [] = true
distinct (x ∷ l) = not (among x l) && distinct l

distinct_once : (l : List ℤ) → T (distinct l) → Once l
unfolding distinct
distinct_once [] h = tt
distinct_once (x ∷ l) h =
    let (p, q) = and_in (not (among x l)) (distinct l) h in
    (λ k. T_not (among x l) p (in_among x l k), distinct_once l q)

-- ---- rows of listed ranks that are their own
same_in : (r s : List ℤ) → T (same r s) → r ≡ s
unfolding same
same_in [] [] h = refl
same_in [] (y ∷ s) h = absurd h
same_in (x ∷ r) [] h = absurd h
same_in (x ∷ r) (y ∷ s) h = let (p, q) = and_in (equal x y) (same r s) h in ap₂ ◌∷◌ (equal_in x y p) (same_in r s q)

same_self : (r : List ℤ) → T (same r r)
unfolding same
same_self [] = tt
same_self (x ∷ r) = and_out (equal x x) (same r r) (equal_out x x refl) (same_self r)

module _ (ranks : List ℤ) where
  pub own_once : (v : ℕ) → T (distinct ranks) → Once (keep is_own (rows ranks v))
  own_once v h = once-keep is_own (rows ranks v) (once-rows ranks v (distinct_once ranks h))

  pub in_own : (r : List ℤ) → All (λ x. In x ranks) r → ranks_of r ≡ r → In r (keep is_own (rows ranks (length r)))
  unfolding is_own
  in_own r h own = in_keep is_own r (rows ranks (length r)) (in_rows ranks r h) (subst (λ t. T (same t r)) (sym own) (same_self r))

  pub own_in : (v : ℕ) (r : List ℤ) → In r (keep is_own (rows ranks v)) → (length r ≡ v) × All (λ x. In x ranks) r × (ranks_of r ≡ r)
  unfolding is_own
  own_in v r h =
      let (i, own) = keep_in is_own r (rows ranks v) h in
      (rows-length ranks v r i, rows_all ranks v r i, same_in (ranks_of r) r own)

-- ---- the entries
pub outside-once : (v : ℕ) → Once (outside v)
unfolding outside eight distinct among
outside-once v = own_once eight v tt

pub outside-width : (v : ℕ) (r : List ℤ) → In r (outside v) → length r ≡ v
unfolding outside
outside-width v r h = (own_in eight v r h).0

pub outside-eight : (v : ℕ) (r : List ℤ) → In r (outside v) → All (λ x. In x eight) r
unfolding outside
outside-eight v r h = (own_in eight v r h).1

pub outside_own : (v : ℕ) (r : List ℤ) → In r (outside v) → ranks_of r ≡ r
unfolding outside
outside_own v r h = (own_in eight v r h).2
