-- `Coding::store_from` meets its contract: the digits up to x-index are written (proofs/Recalled.antt).
use mathlib.Core.Path.{◌≡◌, ◌∙◌}
use native.Mathlib.Omega.{arith}
use borrow.Author.Rules.{rules}
use Rattle.pattern_word.proofs.Recalled as recalled
use Rattle.pattern_word.proofs.Coding.store_from.Goals.{then-self-x, else-self-x}
use Rattle.pattern_word.proofs.Coding.store_from.Goals as goal

pub loop-x-preserved : goal.loop-x-preserved
loop-x-preserved c = elim c.if-self-x.branch [
  | then-self-x w ↦ rw (let e : _ ≡ c.args.self.now.w = w.n-is ∙ omega arith in e, w.x-items-is) (recalled.store_written c.args.self.now.w c.loop-x.n c.loop-x.x-index c.loop-x.x-items (search rules) w.if-self-x.true ∙ c.loop-x.invariant)
  | else-self-x w ↦ rw (w.n-is, w.x-items-is) (recalled.store_left c.args.self.now.w c.loop-x.n c.loop-x.x-index c.loop-x.x-items (search rules) w.if-self-x.false ∙ c.loop-x.invariant)
]

pub returns : goal.returns
returns c = recalled.all_stored c.args.self.now.w c.loop-x.n c.loop-x.x-items c.loop-x.x-index (search rules) ∙ c.loop-x.invariant
