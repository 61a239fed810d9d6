-- The entries: so many numbers below 8 each, 2, 8, 44 and 308 of them, none twice; a slot belongs to one entry alone.
use mathlib.Core.Path.{◌≡◌, refl, sym, ap, ap₂, ◌∙◌, subst}
use mathlib.Core.Bool.{cond}
use mathlib.Core.List.{List, [], ◌∷◌, map}
use mathlib.Core.Logic.{inl, inr}
use Prim.Native.Nat.{ℕ, zero, suc, ◌+◌, ◌-◌, ◌<◌, ◌≤◌}
use native.Mathlib.Omega.{arith}
use lib.IntN.{ℤ, pos, negsuc}
use lib.ListN.{length, get_or, length-map}
use lib.Dec.{ltb}
use Rattle.graph.specs.Lists.{In, Once}
use Rattle.graph.proofs.Counting.{map_in, once-map}
use Rattle.model.specs.Pattern.{pattern}
use Rattle.model.specs.Inner.Lists.{All}
use Rattle.model.proofs.Lists.{all_in, all_map}
use Rattle.outside.specs.Inner.Rows.{rows, keep}
use Rattle.outside.specs.Outside.{ranks_of, same, is_own, eight, outside}
use Rattle.outside.proofs.Listed.{outside-numbers, outside-once, outside-width, outside-eight}
use Rattle.outside_row.specs.Inner.Table.{rank_number, entries_for, slot_of, HasEntry}
use Rattle.outside_row.proofs.Keys.{Octal, slot_tells}
use Rattle.outside_row.proofs.Places.{in_get_d, once-place}

-- ---- the numbers of the eight ranks
number-eight : (x : ℤ) → In x eight → rank_number x < 8
unfolding eight rank_number
number-eight x h =
    all_in (λ y. rank_number y < 8) eight x (omega arith, (omega arith, (omega arith, (omega arith, (omega arith, (omega arith, (omega arith, (omega arith, tt)))))))) h

-- the rank that has the number
rank_of : ℕ → ℤ
rank_of k = cond (ltb k 4) (pos (k + 1)) (negsuc (k - 4))

rank-number : (x : ℤ) → In x eight → rank_of (rank_number x) ≡ x
unfolding eight rank_number rank_of
rank-number x h = all_in (λ y. rank_of (rank_number y) ≡ y) eight x (refl, (refl, (refl, (refl, (refl, (refl, (refl, (refl, tt)))))))) h

ranks_numbers : (r : List ℤ) → All (λ x. In x eight) r → map rank_of (map rank_number r) ≡ r
ranks_numbers [] a = refl
ranks_numbers (x ∷ r) (h, a) = ap₂ ◌∷◌ (rank-number x h) (ranks_numbers r a)

-- ---- the entries
pub entries-length : (v : ℕ) → length (entries_for v) ≡ length (outside v)
unfolding entries_for
entries-length v = length-map (outside v) (map rank_number)

pub entry-eight : (v : ℕ) (l : List ℕ) → In l (entries_for v) → Octal l
unfolding entries_for
entry-eight v l h =
    let (r, k, e) = map_in (map rank_number) l (outside v) h in
    subst (Octal) e (all_map (λ x. In x eight) (λ b. b < 8) rank_number number-eight r (outside-eight v r k))

-- also past the last entry
pub entry_octal : (v n : ℕ) → Octal (get_or (entries_for v) n [])
entry_octal v n = each (entries_for v) (entry-eight v) n
  where
    each : (t : List (List ℕ)) → ((l : List ℕ) → In l t → Octal l) → (n : ℕ) → Octal (get_or t n [])
    each [] f n = tt
    each (l ∷ t) f zero = f l (inl refl)
    each (l ∷ t) f (suc n) = each t (λ k h. f k (inr h)) n

pub entry-width : (v : ℕ) (l : List ℕ) → In l (entries_for v) → length l ≡ v
unfolding entries_for
entry-width v l h =
    let (r, k, e) = map_in (map rank_number) l (outside v) h in
    ap length (sym e) ∙ length-map r rank_number ∙ outside-width v r k

entries-once : (v : ℕ) → Once (entries_for v)
unfolding entries_for
entries-once v =
    once-map (map rank_number) (outside v) (outside-once v)
    (λ r s h k e. sym (ranks_numbers r (outside-eight v r h)) ∙ ap (map rank_of) e ∙ ranks_numbers s (outside-eight v s k))

-- of no variables there is one pattern, and it is empty
pub no_entries : (i : ℕ) → get_or (entries_for 0) i [] ≡ []
unfolding entries_for outside is_own same eight keep rows ranks_of pattern
no_entries zero = refl
no_entries (suc i) = refl

empty_one : length (entries_for 0) ≡ 1
unfolding entries_for outside is_own same eight keep rows ranks_of pattern
empty_one = refl

pub entries-few : (v : ℕ) → v ≤ 4 → length (entries_for v) ≤ 308
entries-few zero h = omega (arith, empty_one)
entries-few (suc zero) h = omega (arith, entries-length 1, outside-numbers.0)
entries-few (suc (suc zero)) h = omega (arith, entries-length 2, outside-numbers.1)
entries-few (suc (suc (suc zero))) h = omega (arith, entries-length 3, outside-numbers.2)
entries-few (suc (suc (suc (suc zero)))) h = omega (arith, entries-length 4, outside-numbers.3)
entries-few (suc (suc (suc (suc (suc v))))) h = absurd (omega arith)

-- ---- entry n for v variables
module _ (v n : ℕ) (is : HasEntry v n) where
  listed_in : In (get_or (entries_for v) n []) (entries_for v)
  listed_in = in_get_d [] (entries_for v) n is.below

  pub listed_eight : Octal (get_or (entries_for v) n [])
  listed_eight = entry-eight v (get_or (entries_for v) n []) listed_in

  pub listed_width : length (get_or (entries_for v) n []) ≡ v
  listed_width = entry-width v (get_or (entries_for v) n []) listed_in

-- a slot belongs to one entry
pub slot_once : (u m v n : ℕ) → HasEntry u m → HasEntry v n → slot_of (get_or (entries_for u) m []) ≡ slot_of (get_or (entries_for v) n []) → (u ≡ v) × (m ≡ n)
slot_once u m v n j k e =
    let same : get_or (entries_for u) m [] ≡ get_or (entries_for v) n [] = slot_tells _ _ (listed_eight u m j) (listed_eight v n k) e in
    let wide : u ≡ v = sym (listed_width u m j) ∙ ap length same ∙ listed_width v n k in
    let there : get_or (entries_for u) m [] ≡ get_or (entries_for u) n [] = same ∙ ap (λ (w : ℕ). get_or (entries_for w) n []) (sym wide) in
    (wide, once-place [] (entries_for u) m n (entries-once u) j.below (subst (λ (w : ℕ). n < length (entries_for w)) (sym wide) k.below) there)
