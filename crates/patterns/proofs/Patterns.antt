-- The patterns of up to four variables, each once, and their number (document 02, T-01). Marks are a pattern exactly if their signed ranks are
-- their own: they are the pattern of their spread.
use mathlib.Core.Path.{◌≡◌, refl, sym, ap, ap₂, ◌∙◌, subst}
use mathlib.Core.Bool.{true, false}
use mathlib.Core.List.{List, [], ◌∷◌, map}
use mathlib.Core.Logic.{inl, inr}
use Prim.Native.Nat.{ℕ, zero, suc, ◌≤◌}
use native.Mathlib.Omega.{arith}
use lib.IntN.{ℤ, pos, neg_ℤ, negsuc}
use lib.Signed.{lt_z}
use lib.ListN.{length, length-map, length-append}
use Rattle.graph.specs.Lists.{In, Census}
use Rattle.graph.proofs.Counting.{census_unique}
use Rattle.model.specs.Pattern.{Mark, inside, above, below, rank, mark, pattern, width_of}
use Rattle.model.specs.Inner.Integers.{Inside}
use Rattle.model.specs.Inner.Lists.{All}
use Rattle.model.proofs.Integers.{zarith}
use Rattle.model.proofs.Side.{place, spread, mark-inside, above-mark, below-mark, above_placed, below_placed, Zone, beyond, within, zone}
use Rattle.outside.specs.Inner.Rows.{bind}
use Rattle.outside.specs.Outside.{signed_rank, ranks_of, eight}
use Rattle.outside.proofs.Rows.{in_bind, bind_in, once-bind}
use Rattle.outside.proofs.Listed.{own_in}
use Rattle.outside.proofs.Own.{Possible, pattern_possible, ranks_of_spread}
use Rattle.outside.proofs.Census.{mark-eight, pattern-row, length_ranks}
use Rattle.patterns.specs.Patterns.{IsPattern, patterns_of}
use Rattle.patterns.proofs.Filling.{zeros_in, fill, in_fill, fill_in, once_fill, length_fill}
use Rattle.patterns.proofs.Shapes.{nine, shapes, shapes_once, poly, tally, bump_is, shapes_tally}

-- the patterns of v variables, by their shapes
unfoldable pub patterns : (lo hi : ℤ) → ℕ → List (List Mark)
patterns lo hi v = bind (fill lo hi) (shapes v)

module _ {lo hi : ℤ} (z : Inside lo hi (pos 0)) where
  -- ---- marks whose signed ranks are their own
  -- a mark is known by the place that the spread gives it and its signed rank
  mark_known : (v : List ℤ) (m : Mark) → Possible lo hi m → signed_rank (mark lo hi v (place lo hi m)) ≡ signed_rank m → mark lo hi v (place lo hi m) ≡ m
  unfolding place
  mark_known v (inside c) h e = mark-inside lo hi v c h
  mark_known v (above (suc k)) h e =
      let there = above-mark z v (place lo hi (above (suc k))) (omega (zarith, above_placed z (suc k))) in
      there ∙ ap above (omega (zarith, sym (ap signed_rank there) ∙ e))
  mark_known v (below (suc k)) h e =
      let there = below-mark z v (place lo hi (below (suc k))) (omega (zarith, below_placed z (suc k))) in
      there ∙ ap below (negative (rank (λ y u. lt_z u y) lo v (place lo hi (below (suc k)))) (sym (ap signed_rank there) ∙ e))
    where
      negative : (n : ℕ) → neg_ℤ (pos n) ≡ negsuc k → n ≡ suc k
      negative zero e = omega zarith
      negative (suc n) e = omega zarith
  mark_known v (above zero) h e = elim h [ ]
  mark_known v (below zero) h e = elim h [ ]

  marks_known : (v : List ℤ) (m : List Mark) → All (Possible lo hi) m → map signed_rank (map (mark lo hi v) (map (place lo hi) m)) ≡ map signed_rank m
      → map (mark lo hi v) (map (place lo hi) m) ≡ m
  marks_known v [] h e = refl
  marks_known v (m ∷ ms) (h, hs) e = ap₂ ◌∷◌ (mark_known v m h (cc)) (marks_known v ms hs (cc))

  own_pattern : (m : List Mark) → All (Possible lo hi) m → ranks_of (map signed_rank m) ≡ map signed_rank m → pattern lo hi (spread lo hi m) ≡ m
  unfolding pattern spread
  own_pattern m h own = marks_known (map (place lo hi) m) m h (ranks_of_spread z m h ∙ own)

  -- ---- the census
  mark_nine : (v : List ℤ) → length v ≤ 4 → (x : ℤ) → In x v → In (signed_rank (mark lo hi v x)) nine
  unfolding nine eight
  mark_nine v few x i = go (zone z x)
    where
      go : Zone z x → In (signed_rank (mark lo hi v x)) nine
      go (beyond true h) = inr (mark-eight z v few x i (inl h))
      go (beyond false h) = inr (mark-eight z v few x i (inr h))
      go (within h) = inl (ap signed_rank (mark-inside lo hi v x h))

  pattern_shape : (values : List ℤ) → length values ≤ 4 → In (map signed_rank (pattern lo hi values)) (shapes (length values))
  unfolding shapes
  pattern_shape values few = rw (← length_ranks z values) (pattern-row z nine values (mark_nine values few))

  pub patterns-census : (v : ℕ) → v ≤ 4 → Census (IsPattern lo hi v) (patterns lo hi v)
  unfolding patterns shapes spread
  patterns-census v few =
      record {
        once = once-bind (fill lo hi) (map signed_rank) (λ r m h. (fill_in z r m h).0) (shapes v) (shapes_once v) (λ r h. once_fill z r);
        all = λ m p.
            let u = p.values in
            let shape = subst (λ n. In (map signed_rank (pattern lo hi u)) (shapes n)) p.size (pattern_shape u (omega (arith, p.size))) in
            subst (λ t. In t (patterns lo hi v)) p.is
            (in_bind (fill lo hi) (map signed_rank (pattern lo hi u)) (pattern lo hi u) (shapes v) shape (in_fill z (pattern lo hi u) (pattern_possible z u)));
        only = λ m h.
            let (r, i, j) = bind_in (fill lo hi) m (shapes v) h in
            let (size, ranks, own) = own_in nine v r i in
            let (signed, possible) = fill_in z r m j in
            record {
              values = spread lo hi m;
              size = length-map m (place lo hi) ∙ sym (length-map m signed_rank) ∙ ap length signed ∙ size;
              is = own_pattern m possible (subst (λ t. ranks_of t ≡ t) (sym signed) own);
            };
      }

  -- ---- the number
  length-filled : (l : List (List ℤ)) → length (bind (fill lo hi) l) ≡ poly (width_of lo hi) (tally l)
  unfolding bind poly tally
  length-filled [] = refl
  length-filled (r ∷ l) =
      omega (arith, length-append (fill lo hi r) (bind (fill lo hi) l), length_fill z r, length-filled l, bump_is (width_of lo hi) (zeros_in r) (tally l))

  pub patterns-number : (v : ℕ) → v ≤ 4 → length (patterns lo hi v) ≡ patterns_of v (width_of lo hi)
  unfolding patterns
  patterns-number v few = length-filled (shapes v) ∙ shapes_tally (width_of lo hi) v few

  -- the pattern numbers are exact: whoever lists the patterns of v variables, each once, has a list of so many
  pub patterns_exact : (v : ℕ) → v ≤ 4 → (list : List (List Mark)) → Census (IsPattern lo hi v) list → length list ≡ patterns_of v (width_of lo hi)
  patterns_exact v few list c = census_unique list (patterns lo hi v) c (patterns-census v few) ∙ patterns-number v few
