-- `exits` meets its contract: both columns list what the entries before k take (proofs/Filling.antt).
use mathlib.Core.Path.{refl, sym, ap, ◌∙◌, subst}
use Prim.Native.Nat.{◌+◌, ◌<◌}
use native.Mathlib.Omega.{arith}
use Rattle.model.specs.Machine.{p_exit, m_exit}
use lib.ListN.{length}
use Rattle.configuration.specs.Inner.Place.{at_of}
use Rattle.cells.proofs.Fields.{length-word-column}
use Rattle.search_table.specs.Inner.Passes.{Stands}
use Rattle.cells.specs.Inner.Columns.{place_field}
use Rattle.search_table.proofs.PassInvariant.{exit-words, none_left}
use Rattle.search_table.proofs.Filling.{Filling, filling_start, filling_more, filling_same}
use Rattle.search_table.proofs.exits.Goals.{In-loop-k, Joined-unlisted, then-unlisted, else-unlisted}
use Rattle.search_table.proofs.exits.Invariants.{Listing}
use Rattle.search_table.proofs.exits.Goals as goal

pub loop-k-init : goal.loop-k-init
loop-k-init c = (filling_start, filling_start)

stored : (c : In-loop-k) → c.loop-k.k < length c.args.cells.now
stored c = omega (arith, c.loop-k-test.true, c.requires.place_room, length-word-column place_field c.args.cells.now)

-- ---- the needs
pub word-requires : goal.word-requires
word-requires c = (stored (goal.at.word-requires c).In-loop-k, omega arith)

pub index-i-requires : goal.index-i-requires
index-i-requires c = subst Stands (sym c.word.ensures) (c.requires.stands _ (omega arith))

pub get-d-requires : goal.get-d-requires
get-d-requires c = (stored (goal.at.get-d-requires c).In-loop-k, omega arith)

pub overflow_add-d : goal.overflow_add-d
overflow_add-d c = let walk = c.requires in
    omega (arith, c.get-d.ensures, walk.few, walk.near c.loop-k.k (omega arith), c.loop-k-test.true)

-- both columns, with the entry
filled : (c : Joined-unlisted) → let a = c.args in
    let k = c.loop-k.k + 1 in
    Listing a.cells.now a.coding.now.w a.ops p_exit k c.if-unlisted.p × Listing a.cells.now a.coding.now.w a.ops m_exit k c.if-unlisted.m
filled c =
    let inv = c.loop-k.invariant in
    let i = c.index-i.ensures.1 in
    let at = sym (ap at_of c.word.ensures) ∙ c.index-i.ensures.0 in
    elim c.if-unlisted.branch [
      | then-unlisted w ↦ (
        subst (Filling _ _ _ _ _ p_exit _) (sym w.p-is)
            (filling_more inv.0 _ _ _ _ i at (exit-words _ _ _ refl w.words_at.ensures) w.list_exits-listed.ensures.0 (omega (arith, w.get-d.ensures))),
        subst (Filling _ _ _ _ _ m_exit _) (sym w.m-is)
            (filling_more inv.1 _ _ _ _ i at (exit-words _ _ _ refl w.words_at.ensures) w.list_exits-listed.ensures.1 (omega (arith, w.get-d.ensures))),
      )
      | else-unlisted w ↦
          let kept = none_left c.args.coding.now.w _ _ _ _ _ (sym c.unlisted.ensures ∙ w.if-unlisted.false) in (
            subst (Filling _ _ _ _ _ p_exit _) (sym w.p-is) (filling_same inv.0 _ _ _ _ i at refl kept.0 refl refl),
            subst (Filling _ _ _ _ _ m_exit _) (sym w.m-is) (filling_same inv.1 _ _ _ _ i at refl kept.1 refl refl),
          )
    ]

pub loop-k-preserved : goal.loop-k-preserved
loop-k-preserved c = filled c

pub words_at-requires : goal.words_at-requires
words_at-requires c = stored (goal.at.words_at-requires c).In-loop-k
