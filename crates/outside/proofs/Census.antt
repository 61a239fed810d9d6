-- The table for v variables, up to four, holds each outside pattern of v variables once, and nothing else.
use mathlib.Core.Path.{◌≡◌, refl, sym, ap, ◌∙◌, subst}
use mathlib.Core.Bool.{not, ◌&&◌}
use mathlib.Core.List.{List, map}
use mathlib.Core.Logic.{◌⊎◌, inl, inr}
use Prim.Native.Nat.{ℕ, zero, suc, ◌≤◌}
use native.Mathlib.Omega.{arith}
use lib.IntN.{ℤ, pos, neg_ℤ}
use lib.Signed.{lt_z}
use lib.ListN.{length, length-map}
use lib.Dec.{T}
use Rattle.graph.specs.Lists.{In, Census}
use Rattle.graph.proofs.Counting.{map_in}
use Rattle.model.specs.Pattern.{rank, mark, pattern}
use Rattle.model.specs.Inner.Integers.{Inside}
use Rattle.model.specs.Inner.Lists.{All}
use Rattle.model.proofs.Lists.{all_in, all_map}
use Rattle.model.proofs.Side.{above-mark, below-mark, upper, lower}
use Rattle.model.proofs.Ranks.{rank_pos, different-length, length-pattern}
use Rattle.outside.specs.Inner.Rows.{rows, keep}
use Rattle.outside.specs.Outside.{IsOutside, signed_rank, is_own, eight, outside}
use Rattle.outside.proofs.Listed.{in_among, in_own, outside-once, outside-width, outside-eight, outside_own}
use Rattle.outside.proofs.Own.{Out, rank_place, rank-place-above, rank-place-below, ranks_of-places, all-marks, pattern_own}

-- ---- ranks from 1 to 4, above or below, are the eight
rank-eight : (k : ℕ) → 1 ≤ k → k ≤ 4 → In (pos k) eight × In (neg_ℤ (pos k)) eight
unfolding eight
rank-eight zero h f = absurd (omega arith)
rank-eight (suc zero) h f = (inr (inr (inr (inr (inl refl)))), inr (inr (inr (inl refl))))
rank-eight (suc (suc zero)) h f = (inr (inr (inr (inr (inr (inl refl))))), inr (inr (inl refl)))
rank-eight (suc (suc (suc zero))) h f = (inr (inr (inr (inr (inr (inr (inl refl)))))), inr (inl refl))
rank-eight (suc (suc (suc (suc zero)))) h f = (inr (inr (inr (inr (inr (inr (inr (inl refl))))))), inl refl)
rank-eight (suc (suc (suc (suc (suc k))))) h f = absurd (omega arith)

eight_sides : All (λ x. T (lt_z (pos 0) x) ⊎ T (lt_z x (pos 0))) eight
unfolding eight
eight_sides = (inr tt, (inr tt, (inr tt, (inr tt, (inl tt, (inl tt, (inl tt, (inl tt, tt))))))))

module _ {lo hi : ℤ} (z : Inside lo hi (pos 0)) where
  rank-place-outside : (x : ℤ) → In x eight → Out lo hi (rank_place lo hi x)
  rank-place-outside x i = go (all_in (λ x. T (lt_z (pos 0) x) ⊎ T (lt_z x (pos 0))) eight x eight_sides i)
    where
      go : T (lt_z (pos 0) x) ⊎ T (lt_z x (pos 0)) → Out lo hi (rank_place lo hi x)
      go (inl h) = inl (subst T (sym (rank-place-above z x)) h)
      go (inr h) = inr (subst T (sym (rank-place-below z x)) h)

  pub mark-eight : (v : List ℤ) → length v ≤ 4 → (x : ℤ) → In x v → Out lo hi x → In (signed_rank (mark lo hi v x)) eight
  mark-eight v few x i (inl h) =
      rw (above-mark z v x h)
      (rank-eight (rank lt_z hi v x) (rank_pos z (upper z) v x h (in_among x v i)) (omega (arith, different-length (λ y. lt_z hi y && not (lt_z x y)) v))).0
  mark-eight v few x i (inr h) =
      rw (below-mark z v x h)
      (rank-eight (rank (λ y u. lt_z u y) lo v x) (rank_pos z (lower z) v x h (in_among x v i)) (omega (arith, different-length (λ y. lt_z y lo && not (lt_z y x)) v))).1

  -- the signed ranks of a pattern are a row of the ranks that its marks have
  pub pattern-row : (ranks values : List ℤ) → ((x : ℤ) → In x values → In (signed_rank (mark lo hi values x)) ranks)
      → In (map signed_rank (pattern lo hi values)) (keep is_own (rows ranks (length (map signed_rank (pattern lo hi values)))))
  pattern-row ranks values f =
      in_own ranks (map signed_rank (pattern lo hi values))
      (all_map (λ m. In (signed_rank m) ranks) (λ x. In x ranks) signed_rank (λ m h. h) (pattern lo hi values)
      (all-marks z (λ m. In (signed_rank m) ranks) values f)) (pattern_own z values)

  pub length_ranks : (values : List ℤ) → length (map signed_rank (pattern lo hi values)) ≡ length values
  length_ranks values = length-map (pattern lo hi values) signed_rank ∙ length-pattern z values

  pub pattern-outside : (values : List ℤ) → length values ≤ 4 → ((x : ℤ) → In x values → Out lo hi x)
      → In (map signed_rank (pattern lo hi values)) (outside (length (map signed_rank (pattern lo hi values))))
  unfolding outside
  pattern-outside values few beyond = pattern-row eight values (λ x i. mark-eight values few x i (beyond x i))

  pub outside-census : (v : ℕ) → v ≤ 4 → Census (IsOutside lo hi v) (outside v)
  outside-census v f =
      record {
        once = outside-once v;
        all = λ r o.
            let size : length r ≡ v = ap length (sym o.is) ∙ length_ranks o.values ∙ o.size in
            subst (λ n. In r (outside n)) size
            (subst (λ t. In t (outside (length t))) o.is (pattern-outside o.values (omega (arith, o.size)) o.beyond));
        only = λ r h.
            record {
              values = map (rank_place lo hi) r;
              size = length-map r (rank_place lo hi) ∙ outside-width v r h;
              beyond = λ x k.
                  let (y, i, e) = map_in (rank_place lo hi) x r k in
                  subst (Out lo hi) e (rank-place-outside y (all_in (λ x. In x eight) r y (outside-eight v r h) i));
              is = ranks_of-places z r ∙ outside_own v r h;
            };
      }
