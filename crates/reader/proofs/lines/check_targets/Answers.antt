-- `lines::check_targets` meets its contract.
use mathlib.Core.Path.{◌≡◌, sym, ◌∙◌}
use mathlib.Core.Bool.{true, false}
use native.Mathlib.Omega.{arith}
use Rattle.std.proofs.lemmas.Grind.{common_steps}
use Rattle.reader.proofs.TargetLaws.{target_lost, target_named, targets-end}
use Rattle.reader.proofs.lines.check_targets.Goals as goal

pub returns-then-lost : goal.returns-then-lost
returns-then-lost c =
    let e : c.is_named-named.result ≡ false = grind (arith, common_steps) in
    rw (← c.loop-i.invariant, ← target_lost _ c.args.instructions.now c.loop-i.i _ c.loop-i-test.true (sym c.is_named-named.ensures ∙ e))

pub loop-i-preserved : goal.loop-i-preserved
loop-i-preserved c =
    let e : c.is_named-named.result ≡ true = grind (arith, common_steps) in
    target_named _ c.args.instructions.now c.loop-i.i _ c.loop-i-test.true (sym c.is_named-named.ensures ∙ e) ∙ c.loop-i.invariant

pub returns : goal.returns
returns c = rw (← c.loop-i.invariant, ← targets-end _ c.args.instructions.now c.loop-i.i c.loop-i-test.false)
