-- The ranks of an entry, read from the constant: rank i of entry n stands at v n + i, and its number is computed from a byte.
use mathlib.Core.Path.{◌≡◌, refl, sym, ap, ◌∙◌, subst}
use mathlib.Core.List.{List, [], ◌∷◌, ◌++◌, map}
use mathlib.Core.Logic.{◌⊎◌, inl, inr}
use Prim.Native.Nat.{ℕ, zero, suc, ◌+◌, ◌*◌, ◌-◌, ◌<◌, ◌≤◌}
use native.Mathlib.Nat.{mul-suc, mul-le-mul}
use native.Mathlib.Omega.{arith}
use lib.IntN.{ℤ, pos, ◌+ℤ◌, nat_abs}
use lib.Signed.{non_neg, mag}
use lib.ListN.{length, get_or, length-append, get_or-append}
use lib.Seq.{get_or-append-add}
use lib.Dec.{T}
use mir.Syntax.{w8, w64}
use mir.Val.{to_z, of_z, SFits, Fits}
use Rattle.graph.specs.Lists.{In}
use Rattle.model.proofs.Lists.{all_in, get_d_map}
use Rattle.outside.specs.Inner.Rows.{bind, flat}
use Rattle.outside.specs.Outside.{eight, outside}
use Rattle.outside.proofs.Listed.{outside-width, outside-eight}
use Rattle.outside_row.specs.Inner.Table.{rank_number, entries_for, HasEntry}
use Rattle.outside_row.proofs.Places.{in_get_d}
use Rattle.outside_row.proofs.Entries.{entries-length, entries-few}

-- ---- the number of a rank: what is computed for each of the eight
abbrev sum : ℤ → ℤ
sum x = to_z w8 (of_z w8 x) +ℤ pos 4

abbrev digit : ℤ → ℕ
digit x = nat_abs (to_z w8 (of_z w8 (sum x)))

abbrev Digit : ℤ → Type 0
Digit x = T (non_neg (to_z w8 (of_z w8 (sum x)))) × (digit x ≤ 8)

-- which of the two sides it is on
abbrev Side : ℤ → Type 0
Side x = ((4 < digit x) × (digit x - 5 ≡ rank_number x)) ⊎ ((digit x < 4) × (7 - digit x ≡ rank_number x))

module _ (x : ℤ) (h : In x eight) where
  bits_same : to_z w8 (of_z w8 x) ≡ x
  unfolding eight
  bits_same = all_in (λ y. to_z w8 (of_z w8 y) ≡ y) eight x (refl, (refl, (refl, (refl, (refl, (refl, (refl, (refl, tt)))))))) h

  pub sum_fits : SFits w8 (sum x)
  unfolding eight
  sum_fits = record {
    sfits = all_in (λ y. mag (sum y) < 128) eight x
        (omega arith, (omega arith, (omega arith, (omega arith, (omega arith, (omega arith, (omega arith, (omega arith, tt)))))))) h;
  }

  digit_is : Digit x
  unfolding eight
  digit_is = all_in Digit eight x (
    (tt, omega arith),
    (
      (tt, omega arith),
      (
        (tt, omega arith),
        (
          (tt, omega arith),
          ((tt, omega arith), ((tt, omega arith), ((tt, omega arith), ((tt, omega arith), tt)))),
        ),
      ),
    ),
  ) h

  pub digit_fits : T (non_neg (to_z w8 (of_z w8 (sum x)))) × Fits w64 (digit x)
  digit_fits = (digit_is.0, record { fits = omega (arith, digit_is.1) })

  side : Side x
  unfolding eight rank_number
  side = all_in Side eight x (
    inr (omega arith, refl),
    (
      inr (omega arith, refl),
      (
        inr (omega arith, refl),
        (
          inr (omega arith, refl),
          (inl (omega arith, refl), (inl (omega arith, refl), (inl (omega arith, refl), (inl (omega arith, refl), tt)))),
        ),
      ),
    ),
  ) h

  pub number-above : 4 < digit x → digit x - 5 ≡ rank_number x
  number-above l = go side
    where
      go : Side x → digit x - 5 ≡ rank_number x
      go (inl (k, e)) = e
      go (inr (k, e)) = absurd (omega arith)

  pub number-below : digit x ≤ 4 → 7 - digit x ≡ rank_number x
  number-below l = go side
    where
      go : Side x → 7 - digit x ≡ rank_number x
      go (inl (k, e)) = absurd (omega arith)
      go (inr (k, e)) = e

-- ---- lists of one length, one after another
module _ (v : ℕ) where
  get_d_flat : (t : List (List ℤ)) → ((r : List ℤ) → In r t → length r ≡ v) → (n i : ℕ) → n < length t → i < v
      → (get_or (flat t) (v * n + i) (pos 0) ≡ get_or (get_or t n []) i (pos 0)) × (v * n + i < length (flat t))
  unfolding flat bind
  get_d_flat [] w n i l m = absurd (omega arith)
  get_d_flat (r ∷ t) w zero i l m =
      let e : v * 0 + i ≡ i = omega arith in (
        ap (λ (j : ℕ). get_or (r ++ flat t) j (pos 0)) e ∙ get_or-append r (flat t) (pos 0) i (omega (arith, w r (inl refl))),
        omega (arith, length-append r (flat t), w r (inl refl)),
      )
  get_d_flat (r ∷ t) w (suc n) i l m =
      let e : v * suc n + i ≡ length r + (v * n + i) = omega (arith, mul-suc v n, w r (inl refl)) in
      let (p, q) = get_d_flat t (λ s h. w s (inr h)) n i (omega arith) m in (
        ap (λ (j : ℕ). get_or (r ++ flat t) j (pos 0)) e ∙ get_or-append-add r (flat t) (v * n + i) (pos 0) ∙ p,
        omega (arith, e, q, length-append r (flat t)),
      )

-- ---- rank i of entry n
pub product_few : (v n : ℕ) → HasEntry v n → v * n ≤ 1232
product_few v n is = mul-le-mul {n₁ = v} {m₁ = n} {n₂ = 4} {m₂ = 308} is.few (omega (arith, is.below, entries-few v is.few))

module _ (v n i : ℕ) (is : HasEntry v n) (h : i < v) (ranks : List ℤ) (whole : ranks ≡ flat (outside v)) where
  there : n < length (outside v)
  there = omega (arith, is.below, entries-length v)

  rank : ℤ
  rank = get_or (get_or (outside v) n []) i (pos 0)

  rank-eight : In rank eight
  unfolding rank
  rank-eight =
      let k = in_get_d [] (outside v) n there in
      all_in (λ x. In x eight) (get_or (outside v) n []) rank (outside-eight v (get_or (outside v) n []) k)
      (in_get_d (pos 0) (get_or (outside v) n []) i (omega (arith, outside-width v (get_or (outside v) n []) k)))

  read_is : to_z w8 (of_z w8 (get_or ranks (v * n + i) (pos 0))) ≡ rank
  unfolding rank
  read_is =
      ap (λ (r : List ℤ). to_z w8 (of_z w8 (get_or r (v * n + i) (pos 0)))) whole
      ∙ ap (λ (x : ℤ). to_z w8 (of_z w8 x)) (get_d_flat v (outside v) (outside-width v) n i there h).0
      ∙ bits_same rank rank-eight

  pub read_below : v * n + i < length ranks
  read_below = omega (arith, ap length whole, (get_d_flat v (outside v) (outside-width v) n i there h).1)

  pub read-eight : In (to_z w8 (of_z w8 (get_or ranks (v * n + i) (pos 0)))) eight
  read-eight = subst (λ (x : ℤ). In x eight) (sym read_is) rank-eight

  pub read_number : rank_number (to_z w8 (of_z w8 (get_or ranks (v * n + i) (pos 0)))) ≡ get_or (get_or (entries_for v) n []) i 0
  unfolding rank entries_for rank_number
  read_number =
      ap rank_number read_is ∙ sym (get_d_map rank_number (get_or (outside v) n []) i (pos 0) 0 refl)
      ∙ ap (λ (l : List ℕ). get_or l i 0) (sym (get_d_map (map rank_number) (outside v) n [] [] refl))
