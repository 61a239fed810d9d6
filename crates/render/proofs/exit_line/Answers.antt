-- `render::exit_line` meets its contract: the number, the exit between commas, the distance, and byte 10, one after another.
use native.Mathlib.Omega.{arith}
use borrow.Author.Rules.{rules}
use Rattle.text.specs.Write.{decimal}
use Rattle.render.specs.Report.{distance_text}
use Rattle.render.proofs.Puts.{put_both}
use Rattle.render.proofs.Lines.{exit_line_lem, line_short}
use Rattle.render.proofs.exit_line.Goals as goal

pub returns : goal.returns
returns c = let a = c.args in
    let fields = put_both (put_both c.number-a.ensures.0 c.copy-b.ensures) c.distance-c.ensures.0 in
    let p = rw (exit_line_lem (decimal a.i) a.exit (distance_text a.d)) at (put_both fields c.copy.ensures) in
    (p, omega (arith, p.end, line_short a.i a.exit a.d (search rules) (search rules)))
