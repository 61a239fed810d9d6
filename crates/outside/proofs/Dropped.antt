-- The ranks outside of any pattern of up to four variables are an entry of a table: the values inside can be dropped.
use mathlib.Core.Path.{◌≡◌, refl, sym, ap, ap₂, ◌∙◌, subst}
use mathlib.Core.Bool.{Bool, true, false, cond, ◌||◌}
use mathlib.Core.List.{List, [], ◌∷◌, map}
use Prim.Native.Nat.{ℕ, ◌≤◌}
use native.Mathlib.Omega.{arith}
use lib.IntN.{ℤ, pos}
use lib.Signed.{lt_z}
use lib.ListN.{length}
use Rattle.graph.specs.Lists.{In}
use Rattle.model.specs.Pattern.{Mark, inside, above, below, rank, mark, pattern}
use Rattle.model.specs.Inner.Integers.{Inside}
use Rattle.model.proofs.Integers.{or_in}
use Rattle.outside.specs.Inner.Rows.{keep}
use Rattle.outside.specs.Outside.{signed_rank, outside, ranks_in}
use Rattle.outside.proofs.Rows.{keep_in, length-keep}
use Rattle.outside.proofs.Kept.{is_out, mark-keep}
use Rattle.outside.proofs.Census.{pattern-outside}

module _ {lo hi : ℤ} (z : Inside lo hi (pos 0)) where
  ranks_cons : (v : List ℤ) (x : ℤ) (m : List Mark)
      → ranks_in (mark lo hi v x ∷ m) ≡ elim (is_out lo hi x) [ true ↦ signed_rank (mark lo hi v x) ∷ ranks_in m | false ↦ ranks_in m ]
  unfolding mark ranks_in
  ranks_cons v x m = go (lt_z hi x) (lt_z x lo) (rank lt_z hi v x) (rank (λ y u. lt_z u y) lo v x)
    where
      go : (a b : Bool) (i j : ℕ) → ranks_in (cond a (above i) (cond b (below j) (inside x)) ∷ m)
          ≡ elim (a || b) [ true ↦ signed_rank (cond a (above i) (cond b (below j) (inside x))) ∷ ranks_in m | false ↦ ranks_in m ]
      go true b i j = refl
      go false true i j = refl
      go false false i j = refl

  ranks_keep : (v l : List ℤ) → ranks_in (map (mark lo hi v) l) ≡ map signed_rank (map (mark lo hi (keep (is_out lo hi) v)) (keep (is_out lo hi) l))
  unfolding keep ranks_in
  ranks_keep v [] = refl
  ranks_keep v (x ∷ l) = ranks_cons v x (map (mark lo hi v) l) ∙ go (is_out lo hi x) (ranks_keep v l)
    where
      few : List ℤ
      few = keep (is_out lo hi) v

      rest : List ℤ
      rest = keep (is_out lo hi) l

      go : (b : Bool) → ranks_in (map (mark lo hi v) l) ≡ map signed_rank (map (mark lo hi few) rest)
          → ◌≡◌ {A = List ℤ} (elim b [ true ↦ signed_rank (mark lo hi v x) ∷ ranks_in (map (mark lo hi v) l) | false ↦ ranks_in (map (mark lo hi v) l) ])
          (map signed_rank (map (mark lo hi few) (elim b [ true ↦ x ∷ rest | false ↦ rest ])))
      go true ih = ap₂ ◌∷◌ (ap signed_rank (sym (mark-keep lo hi v x))) ih
      go false ih = ih

  -- the ranks outside of any pattern of up to four variables are an entry of the table for so many
  pub outside_in : (values : List ℤ) → length values ≤ 4 → In (ranks_in (pattern lo hi values)) (outside (length (ranks_in (pattern lo hi values))))
  unfolding pattern
  outside_in values few =
      subst (λ r. In r (outside (length r))) (sym (ranks_keep values values))
      (pattern-outside z (keep (is_out lo hi) values) (omega (arith, length-keep (is_out lo hi) values))
      (λ x h. or_in (lt_z hi x) (lt_z x lo) (keep_in (is_out lo hi) x values h).1))
