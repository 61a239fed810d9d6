-- The marks that have given signed ranks: a rank other than 0 says its mark, and for 0 any number from lo to hi stands. So ranks with k zeros
-- are those of w to the power of k rows of marks, w numbers lying from lo to hi.
use mathlib.Core.Path.{◌≡◌, refl, sym, ap₂, ◌∙◌, subst}
use mathlib.Core.List.{List, [], ◌∷◌, map}
use mathlib.Core.Logic.{inl, inr}
use Prim.Native.Nat.{ℕ, zero, suc, ◌+◌, ◌-◌, ◌*◌, ◌^◌}
use native.Mathlib.Nat.{one-mul, pow-zero, pow-succ'}
use native.Mathlib.Omega.{arith}
use lib.IntN.{ℤ, pos, negsuc, ◌+ℤ◌}
use lib.ListN.{length, length-map}
use Rattle.graph.specs.Lists.{In, Once}
use Rattle.graph.proofs.Counting.{listed, length_listed, listed_in, in_listed, listed_once, in_map, map_in, once-map}
use Rattle.model.specs.Pattern.{Mark, inside, above, below, width_of}
use Rattle.model.specs.Inner.Integers.{up, dn, Inside}
use Rattle.model.specs.Inner.Lists.{All}
use Rattle.model.proofs.Integers.{zarith, add_pos}
use Rattle.outside.specs.Inner.Rows.{led}
use Rattle.outside.specs.Outside.{signed_rank}
use Rattle.outside.proofs.Rows.{in_led, led_in, once-led, length-led}
use Rattle.outside.proofs.Own.{Possible}

-- how many ranks are 0
unfoldable pub zeros_in : List ℤ → ℕ
zeros_in [] = 0
zeros_in (pos zero ∷ r) = suc (zeros_in r)
zeros_in (pos (suc k) ∷ r) = zeros_in r
zeros_in (negsuc k ∷ r) = zeros_in r

module _ (lo hi : ℤ) where
  -- the whole numbers from lo to hi
  unfoldable pub inside_numbers : List ℤ
  inside_numbers = listed (λ k. lo +ℤ pos k) (width_of lo hi)

  unfoldable pub choices : ℤ → List Mark
  choices (pos zero) = map inside inside_numbers
  choices (pos (suc k)) = above (suc k) ∷ []
  choices (negsuc k) = below (suc k) ∷ []

  unfoldable pub fill : List ℤ → List (List Mark)
  fill [] = [] ∷ []
  fill (r ∷ rs) = led (choices r) (fill rs)

-- ---- the numbers from lo to hi
width_is : (lo hi : ℤ) → Inside lo hi (pos 0) → width_of lo hi + (up lo + dn hi) ≡ 1 + (up hi + dn lo)
unfolding width_of
width_is (pos zero) (pos b) z = omega arith
width_is (pos (suc a)) (pos b) z = absurd (omega zarith)
width_is (negsuc a) (pos b) z = omega arith
width_is lo (negsuc b) z = absurd (omega zarith)

module _ {lo hi : ℤ} (z : Inside lo hi (pos 0)) where
  in_numbers : (c : ℤ) → Inside lo hi c → In c (inside_numbers lo hi)
  unfolding inside_numbers
  in_numbers c h =
      let k = (up c + dn lo) - (up lo + dn c) in
      subst (λ x. In x (listed (λ k. lo +ℤ pos k) (width_of lo hi))) (omega (zarith, add_pos lo k))
      (listed_in (λ k. lo +ℤ pos k) (width_of lo hi) k (omega (zarith, width_is lo hi z)))

  numbers_in_lem : (c : ℤ) → In c (inside_numbers lo hi) → Inside lo hi c
  unfolding inside_numbers
  numbers_in_lem c h =
      let (k, l, e) = in_listed (λ k. lo +ℤ pos k) (width_of lo hi) c h in
      record { low = omega (zarith, add_pos lo k); high = omega (zarith, add_pos lo k, width_is lo hi z) }

  once-numbers : Once (inside_numbers lo hi)
  unfolding inside_numbers
  once-numbers = listed_once (λ k. lo +ℤ pos k) (width_of lo hi) (λ i j l m e. omega (zarith, add_pos lo i, add_pos lo j, e))

  -- ---- the marks of one rank
  in_choices : (m : Mark) → Possible lo hi m → In m (choices lo hi (signed_rank m))
  unfolding choices
  in_choices (inside c) h = in_map inside c (inside_numbers lo hi) (in_numbers c h)
  in_choices (above (suc k)) h = inl refl
  in_choices (below (suc k)) h = inl refl
  in_choices (above zero) h = elim h [ ]
  in_choices (below zero) h = elim h [ ]

  choices_in : (r : ℤ) (m : Mark) → In m (choices lo hi r) → (signed_rank m ≡ r) × Possible lo hi m
  unfolding choices
  choices_in (pos zero) m h =
      let (c, k, e) = map_in inside m (inside_numbers lo hi) h in
      subst (λ t. (signed_rank t ≡ pos 0) × Possible lo hi t) e (refl, numbers_in_lem c k)
  choices_in (pos (suc k)) m (inl e) = subst (λ t. (signed_rank t ≡ pos (suc k)) × Possible lo hi t) (sym e) (refl, tt)
  choices_in (negsuc k) m (inl e) = subst (λ t. (signed_rank t ≡ negsuc k) × Possible lo hi t) (sym e) (refl, tt)
  choices_in (pos (suc k)) m (inr x3) = elim x3 [ ]
  choices_in (negsuc k) m (inr x'') = elim x'' [ ]

  once_choices : (r : ℤ) → Once (choices lo hi r)
  unfolding choices
  once_choices (pos zero) = once-map inside (inside_numbers lo hi) once-numbers (λ a b h k e. cc)
  once_choices (pos (suc k)) = (λ h. h, tt)
  once_choices (negsuc k) = (λ h. h, tt)

  -- ---- the marks of several ranks
  pub in_fill : (m : List Mark) → All (Possible lo hi) m → In m (fill lo hi (map signed_rank m))
  unfolding fill
  in_fill [] h = inl refl
  in_fill (m ∷ ms) (h, hs) = in_led m ms (choices lo hi (signed_rank m)) (fill lo hi (map signed_rank ms)) (in_choices m h) (in_fill ms hs)

  pub fill_in : (r : List ℤ) (m : List Mark) → In m (fill lo hi r) → (map signed_rank m ≡ r) × All (Possible lo hi) m
  unfolding fill
  fill_in [] m (inl e) = subst (λ t. (map signed_rank t ≡ []) × All (Possible lo hi) t) (sym e) (refl, tt)
  fill_in (r ∷ rs) m h =
      let (a, t, p, k, e) = led_in m (choices lo hi r) (fill lo hi rs) h in
      let (i, j) = choices_in r a p in
      let (is, js) = fill_in rs t k in
      subst (λ t. (map signed_rank t ≡ r ∷ rs) × All (Possible lo hi) t) e (ap₂ ◌∷◌ i is, (j, js))
  fill_in [] m (inr x'') = elim x'' [ ]

  pub once_fill : (r : List ℤ) → Once (fill lo hi r)
  unfolding fill
  once_fill [] = (λ h. h, tt)
  once_fill (r ∷ rs) = once-led (choices lo hi r) (fill lo hi rs) (once_choices r) (once_fill rs)

  pub length_fill : (r : List ℤ) → length (fill lo hi r) ≡ width_of lo hi ^ zeros_in r
  unfolding fill zeros_in choices inside_numbers
  length_fill [] = sym (pow-zero (width_of lo hi))
  length_fill (pos zero ∷ rs) =
      length-led (map inside (inside_numbers lo hi)) (fill lo hi rs)
      ∙ ap₂ ◌*◌ (length-map (inside_numbers lo hi) inside ∙ length_listed (λ k. lo +ℤ pos k) (width_of lo hi)) (length_fill rs)
      ∙ sym (pow-succ' (width_of lo hi) (zeros_in rs))
  length_fill (pos (suc k) ∷ rs) = length-led (above (suc k) ∷ []) (fill lo hi rs) ∙ one-mul (length (fill lo hi rs)) ∙ length_fill rs
  length_fill (negsuc k ∷ rs) = length-led (below (suc k) ∷ []) (fill lo hi rs) ∙ one-mul (length (fill lo hi rs)) ∙ length_fill rs
