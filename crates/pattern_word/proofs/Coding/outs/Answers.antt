-- `Coding::outs` meets its contract: n is the number of those before x-index (proofs/Recalled.antt).
use mathlib.Core.Path.{◌≡◌, refl, ap}
use native.Mathlib.Omega.{arith}
use borrow.Author.Rules.{rules}
use lib.ListN.{length}
use Rattle.pattern_word.proofs.Stored.{excess-few}
use Rattle.pattern_word.proofs.Recalled as recalled
use Rattle.pattern_word.proofs.Coding.outs.Goals.{then-is_outside, else-is_outside}
use Rattle.pattern_word.proofs.Coding.outs.Goals as goal

fits : (c : goal.Then-is_outside) → length c.args.d ≡ 4
fits c = search rules

pub overflow_add-n : goal.overflow_add-n
overflow_add-n c = record { fits = omega (arith, c.loop-x.invariant, excess-few c.args.self.now.w c.args.d, fits c) }

pub loop-x-preserved : goal.loop-x-preserved
loop-x-preserved c = elim c.if-is_outside.branch [
  | then-is_outside w ↦ omega (arith, w.n-is, c.loop-x.invariant, ap length (recalled.drop_outside c.args.self.now.w c.args.d _ c.loop-x.x-index refl (search rules) w.if-is_outside.true))
  | else-is_outside w ↦ omega (arith, w.n-is, c.loop-x.invariant, ap length (recalled.drop_inside c.args.self.now.w c.args.d _ c.loop-x.x-index refl (search rules) w.if-is_outside.false))
]

pub returns : goal.returns
returns c = let e = ap length (recalled.excess-end c.args.self.now.w c.args.d c.loop-x.x-index (search rules)) in
    (omega (arith, c.loop-x.invariant, e), omega (arith, c.loop-x.invariant, excess-few c.args.self.now.w c.args.d))
