-- The marks of the entries while the table grows. What is stored stays stored, and what comes has no marks, so that marks keep their meaning.
use mathlib.Core.Path.{◌≡◌, sym, ◌∙◌, subst, subst₂}
use mathlib.Core.Bool.{true, false}
use mathlib.Core.List.{List}
use mathlib.Core.Logic.{◌⊎◌, inl, inr}
use Prim.Native.Nat.{ℕ, ◌<◌, ◌≤◌}
use native.Mathlib.Decide.{dec_lt}
use native.Mathlib.Omega.{arith}
use lib.ListN.{length}
use Rattle.graph.proofs.Table.{held_kept}
use Rattle.graph.specs.Inner.Table.{Table, Held, Extends}
use Rattle.configuration.specs.Inner.Step.{member_of}
use Rattle.pattern_word.specs.Inner.Span.{Trial}
use Rattle.configuration.specs.declared.Words.{Words}
use Rattle.cells.specs.Inner.Columns.{marks_field, Rows, columns_of, Only}
use Rattle.cells.specs.Inner.Entries.{entries_of}
use Rattle.cells.specs.Inner.Marks.{is_marked, marking, Unmarked}
use Rattle.cells.proofs.Marking.{mark_either, fresh_then}
use Rattle.cells.proofs.Entering.{remarked}
use Rattle.search_visit.specs.Inner.Visit.{Met}
use Rattle.search_visit.specs.Inner.Fan.{Marked}

pub true_false : true ≡ false → ⊥
true_false e = let z : ◌≡◌ {A = ℕ} 0 1 = cc in omega arith

-- ---- a visit that found no cell, after others
pub fresh-full : (f g h : List ℕ) (count n : ℕ) → count ≤ n → Unmarked f g count n → Unmarked g h n n → Unmarked f h count count
fresh-full f g h count n l p q = record { old = (fresh_then f g h count n n l p q).old; new = λ i v a b. absurd (omega arith) }

-- ---- what a mark means
-- in a table that has grown, by what it meant of the entries that were there
fresh-marked : (w : ℕ) (fans fans' : List ℕ) {t t' : Table Words} → Extends t t' → Unmarked fans fans' t.count t'.count
    → ((i v : ℕ) → i < t.count → is_marked fans i v ≡ true → (u : ℕ) → Trial w u → Held t' (member_of w v (t.node i) u)) → Marked w fans' t'
fresh-marked w fans fans' {t} {t'} g f m i v below is u tr = go (dec_lt i t.count)
  where
    go : Dec (i < t.count) → Held t' (member_of w v (t'.node i) u)
    go (yes l) = subst (λ (x : Words). Held t' (member_of w v x u)) (sym (g.nodes i l)) (m i v l (sym (f.old i v l) ∙ is) u tr)
    go (no l) = absurd (true_false (sym is ∙ f.new i v (omega arith) below))

pub marked-kept : (w : ℕ) (fans fans' : List ℕ) {t t' : Table Words} → Extends t t' → Unmarked fans fans' t.count t'.count → Marked w fans t
    → Marked w fans' t'
marked-kept w fans fans' g f m = fresh-marked w fans fans' g f (λ i v l is u tr. held_kept g (m i v l is u tr))

-- with one mark more, of an entry whose fan is stored by then
pub marked_more : (w : ℕ) (fans fans' : List ℕ) {t t' : Table Words} → Extends t t' → Marked w fans t → (i v : ℕ) → i < length fans
    → Unmarked (marking fans i v) fans' t.count t'.count → ((u : ℕ) → Trial w u → Held t' (member_of w v (t.node i) u)) → Marked w fans' t'
marked_more w fans fans' {t} {t'} g m i v room f whole =
    fresh-marked w (marking fans i v) fans' g f (λ j x l is u tr. go j x l u tr (mark_either fans i v room j x is))
  where
    go : (j x : ℕ) → j < t.count → (u : ℕ) → Trial w u → ((j ≡ i) × (x ≡ v)) ⊎ (is_marked fans j x ≡ true) → Held t' (member_of w x (t.node j) u)
    go j x l u tr (inl (a, b)) = subst₂ (λ (j x : ℕ). Held t' (member_of w x (t.node j) u)) (sym a) (sym b) (whole u tr)
    go j x l u tr (inr o) = held_kept g (m j x l o u tr)

-- ---- a visit, and then a mark
pub met_marked : (c₀ c c' : List (List ℕ)) (count cells d k : ℕ) (y : Words) (i n : ℕ) → Only marks_field c c'
    → Met (entries_of (columns_of c₀)) (entries_of (columns_of c)) (columns_of c).heads (columns_of c).nexts count cells d k y i n
    → Met (entries_of (columns_of c₀)) (entries_of (columns_of c')) (columns_of c').heads (columns_of c').nexts count cells d k y i n
met_marked c₀ c c' count cells d k y i n only =
    remarked c c' only (λ (r : Rows). Met (entries_of (columns_of c₀)) (entries_of r) r.heads r.nexts count cells d k y i n)
