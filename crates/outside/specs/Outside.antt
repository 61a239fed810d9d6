-- The outside patterns of v variables (document 02, T-06): a signed rank for each variable, 1, 2, .. above C2 and -1, -2, .. below C1. C1 and C2
-- are called lo and hi here.
use Rattle.std.specs.Prelude.{◌≡◌, Bool, true, false, ◌&&◌, ◌||◌, List, [], ◌∷◌, map, ◌⊎◌, ℕ, ℤ, pos, negsuc, neg_ℤ, length, T}
use Rattle.std.specs.Int.Signed.{lt_z}
use Rattle.graph.specs.Lists.{In}
use Rattle.model.specs.Pattern.{Mark, inside, above, below, equal, pattern}
use Rattle.outside.specs.Inner.Rows.{rows, keep}

-- the signed rank that a mark says; 0 inside
abbrev pub signed_rank : Mark → ℤ
signed_rank (inside c) = pos 0
signed_rank (above k) = pos k
signed_rank (below k) = neg_ℤ (pos k)

-- r holds the signed ranks of some v values, all of them above hi or below lo
pub record IsOutside (lo hi : ℤ) (v : ℕ) (r : List ℤ) : Type 0 where
  pub values : List ℤ
  pub size : length values ≡ v
  pub beyond : (x : ℤ) → In x values → T (lt_z hi x) ⊎ T (lt_z x lo)
  pub is : map signed_rank (pattern lo hi values) ≡ r

-- ---- the order of the table
-- by the first rank, then the second and on
unfoldable pub before : List ℤ → List ℤ → Bool
before [] s = false
before (x ∷ r) [] = false
before (x ∷ r) (y ∷ s) = lt_z x y || (equal x y && before r s)

unfoldable pub all_pass : (List ℤ → Bool) → List (List ℤ) → Bool
all_pass test [] = true
all_pass test (r ∷ t) = test r && all_pass test t

-- each entry comes before all later ones
unfoldable pub rising : List (List ℤ) → Bool
rising [] = true
rising (r ∷ t) = all_pass (before r) t && rising t

-- ---- the table
-- the signed ranks of values where C1 and C2 are 0
unfoldable pub ranks_of : List ℤ → List ℤ
ranks_of values = map signed_rank (pattern (pos 0) (pos 0) values)

unfoldable pub same : List ℤ → List ℤ → Bool
same [] [] = true
same [] (y ∷ s) = false
same (x ∷ r) [] = false
same (x ∷ r) (y ∷ s) = equal x y && same r s

-- whether ranks, taken as values, have themselves for ranks. Of ranks other than 0 those of outside patterns have, whatever C1 and C2, and no others
unfoldable pub is_own : List ℤ → Bool
is_own r = same (ranks_of r) r

unfoldable pub eight : List ℤ
eight = negsuc 3 ∷ negsuc 2 ∷ negsuc 1 ∷ negsuc 0 ∷ pos 1 ∷ pos 2 ∷ pos 3 ∷ pos 4 ∷ []

-- the outside patterns of v variables, up to four, in rising order
unfoldable pub outside : ℕ → List (List ℤ)
outside v = keep is_own (rows eight v)

-- ---- the outside part of a pattern
-- the signed ranks of the marks that are not inside
unfoldable pub ranks_in : List Mark → List ℤ
ranks_in [] = []
ranks_in (inside c ∷ ms) = ranks_in ms
ranks_in (above k ∷ ms) = pos k ∷ ranks_in ms
ranks_in (below k ∷ ms) = neg_ℤ (pos k) ∷ ranks_in ms
