-- Two values compared by their marks (document 02, T-05): the nine cases of below, inside and above.
use Rattle.std.specs.Prelude.{Bool, true, false, ltb}
use Rattle.std.specs.Int.Signed.{lt_z}
use Rattle.model.specs.Pattern.{Mark, inside, above, below}

-- whether the one value is less than the other: of two below the one of greater rank, of two inside the lesser value, of two above the one of
-- lesser rank; in the six unlike pairs neither rank nor value is consulted
unfoldable pub less_mark : Mark → Mark → Bool
less_mark (below j) (below k) = ltb k j
less_mark (below j) (inside y) = true
less_mark (below j) (above k) = true
less_mark (inside x) (below k) = false
less_mark (inside x) (inside y) = lt_z x y
less_mark (inside x) (above k) = true
less_mark (above j) (below k) = false
less_mark (above j) (inside y) = false
less_mark (above j) (above k) = ltb j k
