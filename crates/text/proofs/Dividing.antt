-- A line divided field by field: what is known once `count` fields are passed and the next one begins at `at`, how a further field
-- is passed, and what is known behind the last. The line is looked at byte by byte. Then a field of a divided line, in the code's terms.
use mathlib.Core.Path.{◌≡◌, refl, sym, ap, ◌∙◌}
use mathlib.Core.List.{List, []}
use Prim.Native.Nat.{ℕ, zero, suc, ◌+◌, ◌-◌, ◌≤◌, ◌<◌}
use native.Mathlib.Decide.{dec_lt}
use native.Mathlib.Numerals.{add-one}
use native.Mathlib.Omega.{arith}
use lib.ListN.{length, replicate, get_or-replicate, get_or, set, take, drop, length-drop}
use lib.Seq.{drop-drop, get_or-drop, get_or-set_same, get_or-set_other}
use Rattle.text.specs.Split.{split}
use Rattle.text.specs.Inner.Divided.{kept, begins, Between, Divided}
use Rattle.text.proofs.Parts.{until-on, until_here, until_most, fields_at, fields-at-last, field-here}
use Rattle.text.specs.Inner.Divided.{until}

pub record Passed (line : List ℕ) (count : ℕ) (ends : List ℕ) (at : ℕ) : Type 0 where
  pub inside : at ≤ length line
  pub few : count ≤ at
  pub rest : drop count (split line) ≡ split (drop at line)
  pub begun : count ≤ kept → begins ends count ≡ at
  pub between : (k : ℕ) → k < kept → k < count → Between line ends k

pub none_passed : (line : List ℕ) (count : ℕ) (ends : List ℕ) → count ≡ 0 → Passed line count ends 0
unfolding begins
none_passed line count ends z = rw z (record {
  inside = omega arith;
  few = omega arith;
  rest = refl;
  begun = λ h. refl;
  between = λ k h l. absurd (omega arith);
})

-- ---- the end of field `count` is kept
-- `next` has it, if there is room, and the ends before it as `ends` has them
pub record EndStored (ends next : List ℕ) (count end : ℕ) : Type 0 where
  pub here : count < kept → get_or next count 0 ≡ end
  pub before : (k : ℕ) → k < kept → k < count → get_or next k 0 ≡ get_or ends k 0

module _ (ends : List ℕ) (count end : ℕ) where
  pub end-room : length ends ≡ kept → count < kept → EndStored ends (set ends count end) count end
  end-room size h = record {
    here = λ l. get_or-set_same ends count end 0 (omega arith);
    before = λ k l m. get_or-set_other ends count k end 0 (λ q. omega arith);
  }

  pub no_room : kept ≤ count → EndStored ends ends count end
  no_room h = record { here = λ l. absurd (omega arith); before = λ k l m. refl }

-- the fields up to it begin where they did
begins-same : (ends next : List ℕ) (count end : ℕ) → EndStored ends next count end →
    (k : ℕ) → k ≤ kept → k ≤ count → begins next k ≡ begins ends k
unfolding begins
begins-same ends next count end stored zero h l = refl
begins-same ends next count end stored (suc k) h l = ap (λ (n : ℕ). n + 1) (stored.before k (omega arith) (omega arith))

-- ---- a further field, which ends at `end`
module _ (line : List ℕ) (count : ℕ) (ends next : List ℕ) (at end : ℕ)
    (passed : Passed line count ends at) (stored : EndStored ends next count end)
    (found : end ≡ at + until 44 (drop at line)) (within : end ≤ length line) where
  -- it is the part from `at` on
  field_is : get_or (split line) count [] ≡ take (end - at) (drop at line)
  field_is =
      let same : count + 0 ≡ count = omega arith in
      (rw same at (sym (get_or-drop count (split line) 0 [])))
      ∙ ap (λ (fs : List (List ℕ)). get_or fs 0 []) passed.rest
      ∙ field-here line at end found passed.inside

  between_next : (k : ℕ) → k < kept → k < count + 1 → Between line next k
  between_next k h l = by (dec_lt k count)
    where
      by : Dec (k < count) → Between line next k
      by (yes q) =
          let f = passed.between k h q in
          let starts = begins-same ends next count end stored k (omega arith) (omega arith) in
          let stops = stored.before k h q in
          record { ordered = rw (starts, stops) f.ordered; inside = rw stops f.inside; part = rw (starts, stops) f.part }
      by (no q) =
          let is : k ≡ count = omega arith in
          let starts = begins-same ends next count end stored count (omega arith) (omega arith) ∙ passed.begun (omega arith) in
          let stops = stored.here (omega arith) in
          rw is (record { ordered = rw (starts, stops) (omega arith); inside = rw stops within; part = rw (starts, stops) (sym field_is) })

  pub one_passed : (total : ℕ) → total ≡ count + 1 → end < length line → Passed line total next (end + 1)
  unfolding begins
  one_passed total more h = rw more (record {
    inside = omega arith;
    few = omega arith;
    rest = sym (drop-drop 1 count (split line)) ∙ ap (drop 1) (passed.rest ∙ fields_at line at end found h);
    begun = λ l. rw (add-one count, stored.here (omega arith));
    between = between_next;
  })

  pub all_passed : (total : ℕ) → total ≡ count + 1 → length line ≤ end → Divided line total next
  all_passed total more h =
      let one = ap length (passed.rest ∙ fields-at-last line at end found passed.inside h) in
      rw more (record { counted = omega (arith, length-drop count (split line)); between = between_next })

-- ---- byte by byte: the line looked at up to i, with `count` commas
-- no comma stands from `at`, where the next field begins, up to i; and an end that is not known yet is the line's
pub record Scanned (line : List ℕ) (i count : ℕ) (ends : List ℕ) : Type 0 where
  pub at : ℕ
  pub passed : Passed line count ends at
  pub reached : at ≤ i
  pub clear : i ≤ at + until 44 (drop at line)
  pub others : (k : ℕ) → count ≤ k → k < kept → get_or ends k 0 ≡ length line

pub scan-start : (line : List ℕ) → Scanned line 0 0 (replicate kept (length line))
scan-start line = record {
  at = 0;
  passed = none_passed line 0 (replicate kept (length line)) refl;
  reached = omega arith;
  clear = omega arith;
  others = λ k l m. get_or-replicate kept k (length line) 0 m;
}

module _ (line : List ℕ) (i count : ℕ) (ends : List ℕ) (s : Scanned line i count ends) where
  -- the byte at i, from where the next field begins
  byte_is : get_or (drop s.at line) (i - s.at) 0 ≡ get_or line i 0
  byte_is = let there : s.at + (i - s.at) ≡ i = omega (arith, s.reached) in get_or-drop s.at line (i - s.at) 0 ∙ ap (λ (n : ℕ). get_or line n 0) there

  rest_long : i < length line → i - s.at < length (drop s.at line)
  rest_long h = simp length-drop (omega (arith, s.reached))

  pub scan-on : i < length line → (get_or line i 0 ≡ 44 → ⊥) → Scanned line (i + 1) count ends
  scan-on h e =
      let more = until-on 44 (drop s.at line) (i - s.at) (omega (arith, s.clear)) (rest_long h) (λ q. e (sym byte_is ∙ q)) in
      record { at = s.at; passed = s.passed; reached = omega (arith, s.reached); clear = omega (arith, s.reached, more); others = s.others }

  scan_comma : (next : List ℕ) → i < length line → get_or line i 0 ≡ 44 → EndStored ends next count i →
      ((k : ℕ) → count < k → k < kept → get_or next k 0 ≡ length line) → Scanned line (i + 1) (count + 1) next
  scan_comma next h e stored others =
      let here = until_here 44 (drop s.at line) (i - s.at) (omega (arith, s.clear)) (rest_long h) (byte_is ∙ e) in
      record {
        at = i + 1;
        passed = one_passed line count ends next s.at i s.passed stored (omega (arith, s.reached, here)) (omega arith) (count + 1) refl h;
        reached = omega arith;
        clear = omega arith;
        others = λ k l m. others k (omega arith) m;
      }

  pub scan-stored : length ends ≡ kept → count < kept → i < length line → get_or line i 0 ≡ 44 →
      {end : ℕ} → end ≡ i → Scanned line (i + 1) (count + 1) (set ends count end)
  scan-stored size few h e is =
      rw is (scan_comma (set ends count i) h e (end-room ends count i size few)
      (λ k l m. get_or-set_other ends count k i 0 (λ q. omega arith) ∙ s.others k (omega arith) m))

  pub scan-counted : kept ≤ count → i < length line → get_or line i 0 ≡ 44 → Scanned line (i + 1) (count + 1) ends
  scan-counted many h e = scan_comma ends h e (no_room ends count i many) (λ k l m. absurd (omega arith))

  pub scan-end : i ≡ length line → Divided line (count + 1) ends
  scan-end e =
      let most = until_most 44 (drop s.at line) in
      let found : length line ≡ s.at + until 44 (drop s.at line) = omega (arith, s.clear, s.reached, simp length-drop at most) in
      all_passed line count ends ends s.at (length line) s.passed
      (record { here = λ l. s.others count (omega arith) l; before = λ k l m. refl }) found (omega arith) (count + 1) refl (omega arith)

-- ---- a field of a divided line
module _ (ends : List ℕ) (k : ℕ) where
  pub begins-first : k ≡ 0 → begins ends k ≡ 0
  unfolding begins
  begins-first z = rw z

  pub begins-later : (k ≡ 0 → ⊥) → begins ends k ≡ get_or ends (k - 1) 0 + 1
  unfolding begins
  begins-later z = let more : k ≡ suc (k - 1) = omega arith in ap (begins ends) more

module _ (line ends : List ℕ) (k : ℕ) where
  pub field_cut : (start : ℕ) → begins ends k ≡ start → Between line ends k →
      take (get_or ends k 0 - start) (drop start line) ≡ get_or (split line) k []
  field_cut start starts f = rw starts at f.part
