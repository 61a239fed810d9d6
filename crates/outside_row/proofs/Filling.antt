-- The row is filled entry by entry: keys go to places that rise, slots lie below them all, and none is written twice.
use mathlib.Core.Path.{◌≡◌, sym, ap, ◌∙◌, subst}
use mathlib.Core.List.{List, []}
use mathlib.Core.Logic.{◌⊎◌, inl, inr}
use Prim.Native.Nat.{ℕ, zero, suc, ◌+◌, ◌*◌, ◌-◌, ◌<◌, ◌≤◌}
use native.Mathlib.Nat.{eq-or-lt_of_le}
use native.Mathlib.Omega.{arith}
use lib.ListN.{length, get_or, set, length-set}
use lib.Seq.{get_or-set_same, get_or-set_other}
use lib.Dec.{ltb, ltb→lt, nltb→le, not_T}
use Rattle.outside.proofs.Listed.{outside-numbers}
use Rattle.outside_row.specs.Inner.Table.{entries_for, key_of, slot_of, first_of, HasEntry, IsTable}
use Rattle.outside_row.specs.Inner.Filling.{LoadedTo, ones_of}
use Rattle.outside_row.proofs.Keys.{key_below, slot_below, slot_key}
use Rattle.outside_row.proofs.Entries.{entries-length, listed_eight, listed_width, slot_once}

-- ---- the places of the keys
pub first_count : (v : ℕ) → 1 ≤ v → v ≤ 4 → first_of v + length (entries_for v) ≡ first_of (v + 1)
unfolding first_of
first_count zero h k = absurd (omega arith)
first_count (suc zero) h k = omega (arith, entries-length 1, outside-numbers.0)
first_count (suc (suc zero)) h k = omega (arith, entries-length 2, outside-numbers.1)
first_count (suc (suc (suc zero))) h k = omega (arith, entries-length 3, outside-numbers.2)
first_count (suc (suc (suc (suc zero)))) h k = omega (arith, entries-length 4, outside-numbers.3)
first_count (suc (suc (suc (suc (suc v))))) h k = absurd (omega arith)

first_next : (v : ℕ) → first_of v ≤ first_of (suc v)
unfolding first_of
first_next zero = omega arith
first_next (suc zero) = omega arith
first_next (suc (suc zero)) = omega arith
first_next (suc (suc (suc zero))) = omega arith
first_next (suc (suc (suc (suc zero)))) = omega arith
first_next (suc (suc (suc (suc (suc v))))) = omega arith

first_rises : (u v : ℕ) → u ≤ v → first_of u ≤ first_of v
first_rises u zero h = let e : u ≡ 0 = omega arith in omega (arith, ap first_of e)
first_rises u (suc v) h = go (eq-or-lt_of_le h) (first_rises u v)
  where
    go : (u ≡ suc v) ⊎ (u < suc v) → (u ≤ v → first_of u ≤ first_of v) → first_of u ≤ first_of (suc v)
    go (inl e) rest = omega (arith, ap first_of e)
    go (inr l) rest = omega (arith, first_next v, rest (omega arith))

-- the slots lie below
first-from : (v : ℕ) → 4681 ≤ first_of v
unfolding first_of
first-from v = omega (arith, first_rises 0 v (omega arith))

module _ (v n : ℕ) (is : HasEntry v n) where
  listed_before : first_of v + n < first_of (v + 1)
  listed_before = omega (arith, first_count v is.some is.few, is.below)

  pub listed_within : first_of v + n < 5043
  unfolding first_of
  listed_within = omega (arith, listed_before, first_rises (v + 1) 5 (omega (arith, is.few)))

  pub listed_slot : slot_of (get_or (entries_for v) n []) < 4681
  listed_slot = slot_below (get_or (entries_for v) n []) (listed_eight v n is) (omega (arith, listed_width v n is, is.few))

  pub listed_key : key_of (get_or (entries_for v) n []) < 4096
  listed_key = key_below (get_or (entries_for v) n []) (listed_eight v n is) (omega (arith, listed_width v n is, is.few))

  pub slot_is : (k ones : ℕ) → k ≡ key_of (get_or (entries_for v) n []) → ones ≡ ones_of v → k + ones ≡ slot_of (get_or (entries_for v) n [])
  slot_is k ones p q = omega (arith, slot_key (get_or (entries_for v) n []), ap ones_of (listed_width v n is))

-- a place belongs to one entry
place_order : (u m v n : ℕ) → HasEntry u m → first_of u + m ≡ first_of v + n → v ≤ u
place_order u m v n j e =
    nltb→le u v (not_T (ltb u v) (λ t. omega (arith, listed_before u m j, first_rises (u + 1) v (omega (arith, ltb→lt u v t)))))

place-once : (u m v n : ℕ) → HasEntry u m → HasEntry v n → first_of u + m ≡ first_of v + n → (u ≡ v) × (m ≡ n)
place-once u m v n j k e =
    let same : u ≡ v = omega (arith, place_order u m v n j e, place_order v n u m k (sym e)) in
    (same, omega (arith, ap first_of same))

-- ---- the row
pub fill_first : (row : List ℕ) → length row ≡ 5043 → LoadedTo (first_of 1) row
unfolding first_of
fill_first row size =
    record { size = size; index = λ v n j l. absurd (omega (arith, first-from v)); key = λ v n j l. absurd (omega (arith, first-from v)) }

-- `ones_of`, from one number of variables to the next
pub ones_next : (u v n : ℕ) → u + 1 ≡ v → n ≡ ones_of u → 1 + 8 * n ≡ ones_of v
unfolding ones_of
ones_next u v n p e = let q : suc u ≡ v = omega arith in omega (arith, e, ap ones_of q)

pub ones_few : (v n : ℕ) → v ≤ 4 → n ≡ ones_of (v - 1) → n ≤ 73
unfolding ones_of
ones_few zero n h e = omega (arith, e)
ones_few (suc zero) n h e = omega (arith, e)
ones_few (suc (suc zero)) n h e = omega (arith, e)
ones_few (suc (suc (suc zero))) n h e = omega (arith, e)
ones_few (suc (suc (suc (suc zero)))) n h e = omega (arith, e)
ones_few (suc (suc (suc (suc (suc v))))) n h e = absurd (omega arith)

pub fill_last : (row : List ℕ) → LoadedTo (first_of 5) row → IsTable row
unfolding first_of
fill_last row f =
    record {
      size = f.size;
      index = λ v n j. f.index v n j (listed_within v n j);
      key = λ v n j. f.key v n j (listed_within v n j);
    }

-- one entry more
module _ (v n : ℕ) (is : HasEntry v n) (row : List ℕ) (f : LoadedTo (first_of v + n) row) where
  slot : ℕ
  slot = slot_of (get_or (entries_for v) n [])

  code : ℕ
  code = key_of (get_or (entries_for v) n [])

  keyed : List ℕ
  keyed = set row (first_of v + n) code

  next : List ℕ
  next = set keyed slot n

  other : (j : ℕ) → (j ≡ slot → ⊥) → (j ≡ first_of v + n → ⊥) → get_or next j 0 ≡ get_or row j 0
  unfolding next keyed
  other j p q = get_or-set_other keyed slot j n 0 p ∙ get_or-set_other row (first_of v + n) j code 0 q

  new-index : get_or next slot 0 ≡ n
  unfolding next keyed slot
  new-index = get_or-set_same keyed slot n 0 (omega (arith, length-set row (first_of v + n) code, f.size, listed_slot v n is))

  new-key : get_or next (first_of v + n) 0 ≡ code
  unfolding next keyed slot
  new-key =
      get_or-set_other keyed slot (first_of v + n) n 0 (λ e. omega (arith, listed_slot v n is, first-from v))
      ∙ get_or-set_same row (first_of v + n) code 0 (omega (arith, f.size, listed_within v n is))

  -- an entry that is in the row: one from before, or this one
  in_row : (P : ℕ → ℕ → Type 0) → P v n → ((u m : ℕ) → HasEntry u m → first_of u + m < first_of v + n → P u m)
      → (u m : ℕ) → HasEntry u m → first_of u + m < first_of v + (n + 1) → P u m
  in_row P new old u m j l = go (eq-or-lt_of_le (omega arith))
    where
      go : (first_of u + m ≡ first_of v + n) ⊎ (first_of u + m < first_of v + n) → P u m
      go (inl e) =
          let (p, q) = place-once u m v n j is e in
          subst (λ (w : ℕ). P w m) (sym p) (subst (λ (k : ℕ). P v k) (sym q) new)
      go (inr k) = old u m j k

  fill_more : LoadedTo (first_of v + (n + 1)) (set (set row (first_of v + n) (key_of (get_or (entries_for v) n []))) (slot_of (get_or (entries_for v) n [])) n)
  unfolding next keyed slot code
  fill_more =
      record {
        size = length-set keyed slot n ∙ length-set row (first_of v + n) code ∙ f.size;
        index =
            in_row (λ u m. get_or next (slot_of (get_or (entries_for u) m [])) 0 ≡ m) new-index
            (λ u m j l.
            other (slot_of (get_or (entries_for u) m []))
            (λ e. let (p, q) = slot_once u m v n j is e in omega (arith, ap first_of p))
            (λ e. omega (arith, listed_slot u m j, first-from v))
            ∙ f.index u m j l);
        key =
            in_row (λ u m. get_or next (first_of u + m) 0 ≡ key_of (get_or (entries_for u) m [])) new-key
            (λ u m j l. other (first_of u + m) (λ e. omega (arith, listed_slot v n is, first-from u)) (λ e. omega arith) ∙ f.key u m j l);
      }

pub fill_next : (v n start k slot : ℕ) (row : List ℕ) → HasEntry v n → start ≡ first_of v → k ≡ key_of (get_or (entries_for v) n [])
    → slot ≡ slot_of (get_or (entries_for v) n []) → LoadedTo (start + n) row → LoadedTo (start + (n + 1)) (set (set row (start + n) k) slot n)
fill_next v n start k slot row is p q r f = rw (p, q, r) (fill_more v n is row (subst (λ (x : ℕ). LoadedTo (x + n) row) p f))
