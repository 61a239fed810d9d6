-- What is looked up in the row.
use mathlib.Core.Path.{◌≡◌, sym, ap, ◌∙◌}
use mathlib.Core.List.{List, []}
use Prim.Native.Nat.{ℕ, ◌+◌, ◌-◌, ◌<◌, ◌≤◌}
use native.Mathlib.Omega.{arith}
use lib.ListN.{length, get_or, get_or-eq_default}
use Rattle.outside_row.specs.Inner.Table.{entries_for, IsEntry, key_of, slot_of, first_of, HasEntry, IsTable, key_at, place_in}
use Rattle.outside_row.proofs.Places.{place_holds, place-below}
use Rattle.outside_row.proofs.Filling.{first_count}

pub index_is : (row : List ℕ) → IsTable row → (slot : ℕ) (l : List ℕ) → IsEntry l → slot ≡ slot_of l
    → get_or row slot 0 ≡ place_in (entries_for (length l)) l
index_is row t slot l is e =
    let n = place_in (entries_for (length l)) l in
    let j : HasEntry (length l) n = record { some = is.some; few = is.few; below = place-below (entries_for (length l)) l is.is } in
    ap (λ (s : ℕ). get_or row s 0) (e ∙ ap slot_of (sym (place_holds (entries_for (length l)) l is.is))) ∙ t.index (length l) n j

-- from where the keys for v variables begin to where they end
module _ (v n start end : ℕ) (some : 1 ≤ v) (few : v ≤ 4) (s : start ≡ first_of v) (e : end ≡ first_of (v + 1)) where
  pub count-is : start + length (entries_for v) ≡ end
  count-is = omega (arith, first_count v some few)

  pub is_listed : n < end - start → HasEntry v n
  is_listed h = record { some = some; few = few; below = omega (arith, count-is) }

  pub key-is : (row : List ℕ) → IsTable row → n < end - start → get_or row (start + n) 0 ≡ key_at v n
  unfolding key_at
  key-is row t h = ap (λ (a : ℕ). get_or row (a + n) 0) s ∙ t.key v n (is_listed h)

  pub key_past : end - start ≤ n → 0 ≡ key_at v n
  unfolding key_at key_of
  key_past h = ap key_of (sym (get_or-eq_default (entries_for v) [] {n = n} (omega (arith, count-is))))
