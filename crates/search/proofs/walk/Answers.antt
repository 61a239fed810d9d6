-- `walk` meets its contract. For every flow that the instructions are prepared from, the loop keeps its search with k entries expanded and c
-- settled; its measure is the entries left to settle and to expand. That there is such a flow keeps the indices in range.
use mathlib.Core.Path.{◌≡◌, refl, sym, ap, ◌∙◌, subst}
use mathlib.Core.List.{List}
use mathlib.Core.Logic.{inl, inr}
use Prim.Native.Nat.{ℕ, ◌+◌, ◌<◌}
use native.Mathlib.Omega.{arith}
use lib.ListN.{length, get_or}
use Rattle.std.specs.Prelude.{Some, None}
use Rattle.configuration.specs.Inner.Place.{at_of}
use Rattle.graph.specs.Lists.{MoreThan}
use Rattle.graph.specs.Inner.Graph.{Reached}
use Rattle.configuration.specs.Inner.Graph.{op_at, word_graph}
use Rattle.configuration.specs.declared.Op.{Op}
use Rattle.cells.specs.Inner.Columns.{marks_field, columns_of}
use Rattle.cells.specs.Inner.Entries.{entries_of}
use Rattle.cells.proofs.Fields.{column-long}
use Rattle.search_table.specs.Inner.Passes.{blank, Stands}
use Rattle.search_table.specs.Inner.Table.{words_at}
use Rattle.search_visit.specs.Inner.Fan.{FanFits, GrownIs}
use Rattle.search.specs.Inner.Search.{ExpandedIs, Subject, Exploring, SearchedIs}
use Rattle.graph.proofs.Search.{Turn}
use Rattle.search.proofs.Exploring.{entry-room, picked, settled-within, entry-stands, entry_fine, entry-near, explored, explored_full, search_finished}
use Rattle.search.proofs.walk.Goals.{After-index-i, After-index-i-else-unsettled, Else-unsettled, In-loop-k, Then-unsettled}
use Rattle.search.proofs.walk.Goals as goal

-- ---- the search, as a turn finds it
exploring : (c : In-loop-k) → let s = c.requires.0 in Exploring s.lo c.args.coding.now.w s.flow (columns_of c.loop-k.cells) c.loop-k.n c.args.size c.loop-k.c c.loop-k.k
exploring c = c.loop-k.invariant.0 c.requires.0 c.requires.1

room : (c : In-loop-k) (i : ℕ) → i < c.loop-k.n → i < length c.loop-k.cells
room c i l = entry-room _ (exploring c).ready l

stands : (c : In-loop-k) (i : ℕ) → i < c.loop-k.n → Stands (get_or (columns_of c.loop-k.cells).places i 0)
stands c i l = let s = c.requires.0 in entry-stands s.fit (exploring c) s.legal i l

-- ---- a turn: the entry is of the flow's instruction, whatever flow that is prepared from, and expanded along its edges of one cost
abbrev Picked : (w : ℕ) (ops : List Op) (cells : List (List ℕ)) → Op → (at : ℕ) → Type 0
Picked w ops cells op at = (s : Subject w ops) → op ≡ op_at s.lo s.flow (words_at (entries_of (columns_of cells)) at)

module _ (c : In-loop-k) {at cost : ℕ} (turn : Turn c.loop-k.n c.loop-k.c c.loop-k.k at cost) (op : Op)
    (pick : Picked c.args.coding.now.w c.args.ops c.loop-k.cells op at) where
  fine : FanFits c.args.coding.now.w op (words_at (entries_of (columns_of c.loop-k.cells)) at)
  fine = let s = c.requires.0 in entry_fine s.fit (exploring c) c.loop-k-test.true turn (pick s)

  module _ (cells : List (List ℕ)) where
    again : (m : ℕ) → ExpandedIs c.args.coding.now.w op (columns_of c.loop-k.cells) (columns_of cells) c.loop-k.n c.args.size at cost (Some m)
        → length cells ≡ length c.loop-k.cells → {c' k' : ℕ} → c' + cost ≡ c.loop-k.c + 1 → k' ≡ c.loop-k.k + cost
        → let b = c.args in
        ((s : Subject b.coding.now.w b.ops) → Exploring s.lo b.coding.now.w s.flow (columns_of b.cells.now) 1 b.size 0 0
        → Exploring s.lo b.coding.now.w s.flow (columns_of cells) m b.size c' k')
        × (length cells ≡ length b.cells.now)
    unfolding GrownIs
    again m grew long settled expanded = (
      λ s begun.
          explored s.fit (c.loop-k.invariant.0 s begun) c.loop-k-test.true turn (pick s) grew (column-long marks_field _ _ long) settled expanded,
      long ∙ c.loop-k.invariant.1,
    )

    full : ExpandedIs c.args.coding.now.w op (columns_of c.loop-k.cells) (columns_of cells) c.loop-k.n c.args.size at cost None → let b = c.args in
        (s : Subject b.coding.now.w b.ops) → Exploring s.lo b.coding.now.w s.flow (columns_of b.cells.now) 1 b.size 0 0
        → MoreThan (Reached (word_graph s.lo b.coding.now.w s.flow)) b.size
    unfolding GrownIs
    full grew s begun = explored_full s.fit (c.loop-k.invariant.0 s begun) c.loop-k-test.true turn (pick s) grew

-- ---- an entry is settled
settling : (c : Then-unsettled) → Turn c.loop-k.n c.loop-k.c c.loop-k.k c.loop-k.c 0
settling c = inl (omega (arith, c.if-unsettled.true, c.loop-k-test.true), refl, refl)

pick : (c : After-index-i) → Picked c.args.coding.now.w c.args.ops c.loop-k.cells (get_or c.args.ops c.index-i.result blank) c.loop-k.c
pick c s = picked s.prepared _ _ (sym (ap at_of c.word.ensures) ∙ c.index-i.ensures.0) c.index-i.ensures.1

-- ---- an entry is expanded
expanding : (c : Else-unsettled) → Turn c.loop-k.n c.loop-k.c c.loop-k.k c.loop-k.k 1
expanding c = inr (omega (arith, c.if-unsettled.false), refl, refl)

pick-2 : (c : After-index-i-else-unsettled) → Picked c.args.coding.now.w c.args.ops c.loop-k.cells (get_or c.args.ops c.index-i-else-unsettled.result blank) c.loop-k.k
pick-2 c s = picked s.prepared _ _ (sym (ap at_of c.word-else-unsettled.ensures) ∙ c.index-i-else-unsettled.ensures.0) c.index-i-else-unsettled.ensures.1

-- ---- the needs
pub word-requires : goal.word-requires
word-requires c = (room (goal.at.word-requires c).In-loop-k _ (omega (arith, c.if-unsettled.true, c.loop-k-test.true)), omega arith)

pub index-i-requires : goal.index-i-requires
index-i-requires c = subst Stands (sym c.word.ensures) (stands (goal.at.index-i-requires c).In-loop-k _ (omega (arith, c.if-unsettled.true, c.loop-k-test.true)))

pub settle-requires-clause-fan_fits : goal.settle-requires-clause-fan_fits
settle-requires-clause-fan_fits c = let d = (goal.at.settle-requires-clause-fan_fits c).After-index-i in
    fine (goal.at.settle-requires-clause-fan_fits c).In-loop-k (settling (goal.at.settle-requires-clause-fan_fits c).Then-unsettled) _ (pick d)

pub returns-in_err-n : goal.returns-in_err-n
unfolding SearchedIs
returns-in_err-n c = rw c.from_residual.ensures (full (goal.at.returns-in_err-n c).In-loop-k (settling (goal.at.returns-in_err-n c).Then-unsettled) _ (pick (goal.at.returns-in_err-n c).After-index-i) _ c.in_err-n.ensures)

pub loop-k-preserved-then-unsettled : goal.loop-k-preserved-then-unsettled
loop-k-preserved-then-unsettled c = again (goal.at.loop-k-preserved-then-unsettled c).In-loop-k (settling (goal.at.loop-k-preserved-then-unsettled c).Then-unsettled) _ (pick (goal.at.loop-k-preserved-then-unsettled c).After-index-i) _ _ c.in_ok-n.ensures c.settle.auto.cells (omega arith) (omega arith)

pub word-requires-else-unsettled : goal.word-requires-else-unsettled
word-requires-else-unsettled c = (room (goal.at.word-requires-else-unsettled c).In-loop-k _ c.loop-k-test.true, omega arith)

pub index-i-requires-else-unsettled : goal.index-i-requires-else-unsettled
index-i-requires-else-unsettled c = subst Stands (sym c.word-else-unsettled.ensures) (stands (goal.at.index-i-requires-else-unsettled c).In-loop-k _ c.loop-k-test.true)

pub expand-requires-clause-fan_fits : goal.expand-requires-clause-fan_fits
expand-requires-clause-fan_fits c =
    fine (goal.at.expand-requires-clause-fan_fits c).In-loop-k (expanding (goal.at.expand-requires-clause-fan_fits c).Else-unsettled) _ (pick-2 (goal.at.expand-requires-clause-fan_fits c).After-index-i-else-unsettled)

pub expand-requires-clause-i_bound : goal.expand-requires-clause-i_bound
expand-requires-clause-i_bound c =
    entry-near c.requires.0.fit (exploring (goal.at.expand-requires-clause-i_bound c).In-loop-k) c.loop-k-test.true (expanding (goal.at.expand-requires-clause-i_bound c).Else-unsettled)

pub returns-in_err-n-2 : goal.returns-in_err-n-2
unfolding SearchedIs
returns-in_err-n-2 c = rw c.from_residual-in_err-n-2.ensures (full (goal.at.returns-in_err-n-2 c).In-loop-k (expanding (goal.at.returns-in_err-n-2 c).Else-unsettled) _ (pick-2 (goal.at.returns-in_err-n-2 c).After-index-i-else-unsettled) _ c.in_err-n-2.ensures)

pub loop-k-smaller : goal.loop-k-smaller
loop-k-smaller c = let x = exploring (goal.at.loop-k-smaller c).In-loop-k in
    omega (arith, x.ready.filled.index.within, settled-within x, c.loop-k-test.true)

pub loop-k-preserved : goal.loop-k-preserved
loop-k-preserved c = again (goal.at.loop-k-preserved c).In-loop-k (expanding (goal.at.loop-k-preserved c).Else-unsettled) _ (pick-2 (goal.at.loop-k-preserved c).After-index-i-else-unsettled) _ _ c.in_ok-n-2.ensures c.expand.auto.cells (omega arith) (omega arith)

pub returns : goal.returns
unfolding SearchedIs
returns c = λ s begun. search_finished s.fit (c.loop-k.invariant.0 s begun) (omega arith)
