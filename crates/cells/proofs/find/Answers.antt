-- `cells::find` meets its contract: the walk along the chain passes no entry of the node (proofs/Walk.antt).
use mathlib.Core.Path.{sym, ap, ap₂, ◌∙◌}
use Prim.Native.Nat.{◌-◌, ◌<◌}
use native.Mathlib.Omega.{arith}
use lib.ListN.{length}
use Rattle.cells.specs.Inner.Index.{Node, node, FoundIs}
use Rattle.cells.proofs.Entering.{filled-room}
use Rattle.cells.proofs.Walk.{walk_start, walk_falls, walk_next}
use Rattle.cells.proofs.find.Goals.{In-loop-cur, else-word-place-via-then-word-place+else-word-pattern, else-word-place-via-else-word-place}
use Rattle.cells.proofs.find.Goals as goal

-- the entry where the walk stands is there
there : (c : In-loop-cur) → c.loop-cur.cur - 1 < length c.args.cells.now
there c = omega (arith, filled-room _ c.requires, c.loop-cur.invariant.within, c.loop-cur-test.true)

-- ---- the needs
pub loop-cur-init : goal.loop-cur-init
loop-cur-init c = walk_start _ _ _ _ _ _ _ c.requires.index _ _ c.bucket-h.ensures.0 c.first-cur.ensures

pub word-requires : goal.word-requires
word-requires c = (there (goal.at.word-requires c).In-loop-cur, omega arith)

pub word-requires-then-word-place : goal.word-requires-then-word-place
word-requires-then-word-place c = (there (goal.at.word-requires-then-word-place c).In-loop-cur, omega arith)

pub returns-then-word-pattern : goal.returns-then-word-pattern
unfolding FoundIs
returns-then-word-pattern c = (omega arith, ap₂ node (sym c.word.ensures ∙ c.if-word-place.true) (sym c.word-then-word-place.ensures ∙ c.if-word-pattern.true))

pub get-cur-requires : goal.get-cur-requires
get-cur-requires c = (there (goal.at.get-cur-requires c).In-loop-cur, omega arith)

pub loop-cur-smaller : goal.loop-cur-smaller
loop-cur-smaller c = omega (arith, c.get-cur.ensures, walk_falls _ _ _ _ _ _ _ c.requires.index _ c.loop-cur.invariant (omega arith))

pub loop-cur-preserved : goal.loop-cur-preserved
loop-cur-preserved c =
    walk_next _ _ _ _ _ _ _ c.requires.index _ c.loop-cur.invariant (omega arith)
    (λ e. elim c.else-word-place.branch [ else-word-place-via-then-word-place+else-word-pattern w ↦ w.if-word-pattern.false (w.word-then-word-place.ensures ∙ ap (λ (x : Node). x.pattern) e) | else-word-place-via-else-word-place w ↦ w.if-word-place.false (c.word.ensures ∙ ap (λ (x : Node). x.place) e) ])
    _ c.get-cur.ensures

pub returns : goal.returns
unfolding FoundIs
returns c j l e = omega (arith, c.loop-cur.invariant.left j l e)
