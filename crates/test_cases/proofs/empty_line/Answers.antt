-- `test_cases::empty_line` meets its contract: the first empty line is the same from each place that the loop reaches.
use mathlib.Core.Bool.{true}
use native.Mathlib.Omega.{arith}
use Rattle.test_cases.proofs.Laws.{empty_here, empty_further, empty_end}
use Rattle.test_cases.proofs.empty_line.Goals as goal

pub returns-then-is_empty : goal.returns-then-is_empty
returns-then-is_empty c = let l = c.loop-at in
    let here = empty_here c.args.file.now l.opens l.at (omega arith) c.if-is_empty.true in
    (omega arith, omega arith, omega arith)

pub loop-at-preserved : goal.loop-at-preserved
loop-at-preserved c = let l = c.loop-at in
    omega (arith, empty_further c.args.file.now l.opens l.at (omega arith) c.if-is_empty.false)

pub returns : goal.returns
returns c = let file = c.args.file.now in
    let l = c.loop-at in
    let past = empty_end file l.opens l.at (omega arith) in
    (grind (arith, empty_end file true c.args.from), omega arith, omega arith)
