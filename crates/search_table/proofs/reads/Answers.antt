-- `reads` meets its contract: the counts are those of the steps passed (proofs/Reading.antt).
use mathlib.Core.Path.{sym, ap, ◌∙◌}
use mathlib.Core.List.{List}
use Prim.Native.Nat.{ℕ, ◌+◌}
use native.Mathlib.Omega.{arith}
use lib.ListN.{get_or}
use Rattle.configuration.specs.Inner.Place.{at_of}
use Rattle.configuration.specs.Inner.Step.{ended_of}
use Rattle.cells.specs.Inner.Columns.{place_field, way_field, column, word_column}
use Rattle.search_table.specs.Inner.Passes.{blank}
use Rattle.search_table.proofs.Reading.{on_way, reads-start, reads_more, reads-few}
use Rattle.search_table.proofs.reads.Goals as goal

pub loop-t-init : goal.loop-t-init
loop-t-init c = reads-start _ _ _

pub place_on-requires : goal.place_on-requires
place_on-requires c = on_way _ c.requires c.loop-t.t (omega (arith, c.loop-t-test.true))

pub place_on-requires-in-loop-t : goal.place_on-requires-in-loop-t
place_on-requires-in-loop-t c = on_way _ c.requires (c.loop-t.t + 1) (omega (arith, c.loop-t-test.true))

pub counted-more-requires : goal.counted-more-requires
counted-more-requires c a =
    omega (arith, ap (λ (r : List ℕ). get_or r a 0) c.loop-t.invariant, reads-few c.args.ops (word_column place_field c.args.cells.now) (column way_field c.args.cells.now) c.loop-t.t a, c.loop-t-test.true, c.requires.few)

pub loop-t-preserved : goal.loop-t-preserved
loop-t-preserved c = let s = c.args in
    let i = c.index in
    let ended = c.ended-ended.ensures ∙ ap (λ (p : ℕ). ended_of p (get_or s.ops i.result blank).tape) c.place_on-in-loop-t.ensures in
    reads_more s.ops (word_column place_field s.cells.now) (column way_field s.cells.now) c.loop-t.t i.result c.loop-t.counts _ _ c.loop-t.invariant
    (ap at_of (sym c.place_on.ensures) ∙ i.ensures.0) ended c.counted-more.ensures
