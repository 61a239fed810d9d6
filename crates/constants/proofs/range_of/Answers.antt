-- `range_of` meets its contract: the loop has folded the constants of the rows from i on, and i falls to 0.
use mathlib.Core.Path.{◌≡◌, ap, ◌∙◌}
use Prim.Native.Nat.{ℕ, suc, ◌-◌}
use native.Mathlib.Omega.{arith}
use mir.Syntax.{w32}
use mir.Val.{to_z, of_z}
use Rattle.model.specs.Language.{least, greatest}
use Rattle.constants.proofs.Extremes as extremes
use Rattle.constants.proofs.range_of.Goals as goal

pub loop-i-init : goal.loop-i-init
loop-i-init c = extremes.rest_none _

pub loop-i-preserved : goal.loop-i-preserved
loop-i-preserved c = let f = c.args.flow in
    let i = c.loop-i.i in
    let e : i ≡ suc (i - 1) = omega (arith, c.loop-i-test.true) in
    let k = c.constant-c in
    let inv = c.loop-i.invariant in (
      extremes.rest_further f (i - 1) (omega (arith, c.loop-i-test.true, c.loop-i.auto.i)) least extremes.lesser extremes.least-fold k.result c.min-lo.result _
          (record { sfits = k.type_inv }) (record { sfits = c.min-lo.type_inv }) k.ensures
          (inv.0 ∙ ap (λ (n : ℕ). least (extremes.extremes_rest f n)) e) c.min-lo.ensures.value,
      extremes.rest_further f (i - 1) (omega (arith, c.loop-i-test.true, c.loop-i.auto.i)) greatest extremes.greater extremes.greatest-fold k.result c.max-hi.result _
          (record { sfits = k.type_inv }) (record { sfits = c.max-hi.type_inv }) k.ensures
          (inv.1 ∙ ap (λ (n : ℕ). greatest (extremes.extremes_rest f n)) e) (c.max-hi.ensures.value ∙ extremes.max_greater (to_z w32 (of_z w32 k.result)) (to_z w32 c.loop-i.hi-bits)),
    )

pub returns : goal.returns
returns c = let f = c.args.flow in
    let e : c.loop-i.i ≡ 0 = omega (arith, c.loop-i-test.false) in (
      c.loop-i.invariant.0 ∙ ap (λ (n : ℕ). least (extremes.extremes_rest f n)) e ∙ (extremes.rest_all f).0,
      c.loop-i.invariant.1 ∙ ap (λ (n : ℕ). greatest (extremes.extremes_rest f n)) e ∙ (extremes.rest_all f).1,
    )
