-- `cells::first` meets its contract: proofs/Heads.antt, a law for each answer.
use native.Mathlib.Omega.{arith}
use Rattle.cells.proofs.Entering.{filled-room}
use Rattle.cells.proofs.Heads.{head_void_read}
use Rattle.cells.proofs.first.Goals.{then-h-eq0-via-then-h-eq0, then-h-eq0-via-else-h-eq0+then-past}
use Rattle.cells.proofs.first.Goals as goal

pub get-head-requires : goal.get-head-requires
get-head-requires c = (omega (arith, filled-room _ c.requires.filled_in, c.requires.b_lt_size), omega arith)

pub returns-then-h-eq0 : goal.returns-then-h-eq0
returns-then-h-eq0 c = head_void_read _ _ _ _ _ c.requires.filled_in c.get-head.ensures
    (λ i l e. elim c.then-h-eq0.branch [ then-h-eq0-via-then-h-eq0 w ↦ omega (arith, w.if-h-eq0.true) | then-h-eq0-via-else-h-eq0+then-past w ↦ omega (arith, w.if-past.true) ])

pub get-requires : goal.get-requires
get-requires c = let f = c.requires.filled_in in
    (omega (arith, filled-room _ f, f.index.some, f.index.within), omega arith)
