-- `Fields::new` meets its contract: the line is divided as far as it was looked at.
use mathlib.Core.Path.{refl}
use native.Mathlib.Omega.{arith}
use lib.ListN.{length-set}
use Rattle.std.proofs.Common.{rules}
use Rattle.text.proofs.Dividing.{scan-start, scan-on, scan-stored, scan-counted, scan-end}
use Rattle.text.proofs.Fields.new.Goals.{then-b-eq44, then-commas-lt-KEPT, else-commas-lt-KEPT, else-b-eq44}
use Rattle.text.proofs.Fields.new.Goals as goal

pub loop-i-init : goal.loop-i-init
loop-i-init c = (refl, scan-start c.args.line.now)

pub loop-i-preserved : goal.loop-i-preserved
loop-i-preserved c =
    let l = c.loop-i in
    elim c.if-b-eq44.branch [
      | then-b-eq44 w ↦ rw (w.ends-is, w.commas-is) (elim w.if-commas-lt-KEPT.branch [
        | then-commas-lt-KEPT w' ↦ rw w'.ends-is (simp length-set l.invariant.0, scan-stored _ _ _ _ l.invariant.1 l.invariant.0 w'.if-commas-lt-KEPT.true c.loop-i-test.true w.if-b-eq44.true (omega arith))
        | else-commas-lt-KEPT w' ↦ rw w'.ends-is (l.invariant.0, scan-counted _ _ _ _ l.invariant.1 w'.if-commas-lt-KEPT.false c.loop-i-test.true w.if-b-eq44.true)
      ])
      | else-b-eq44 w ↦ rw (w.ends-is, w.commas-is) (l.invariant.0, scan-on _ _ _ _ l.invariant.1 c.loop-i-test.true w.if-b-eq44.false)
    ]

pub invariant_of-result : goal.invariant_of-result
invariant_of-result c = record { divided = scan-end _ _ _ _ c.loop-i.invariant.1 (search rules) }
