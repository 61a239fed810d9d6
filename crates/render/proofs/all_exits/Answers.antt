-- `render::all_exits` meets its contract: who puts the lines of the instructions from i on behind those before them puts all.
use mathlib.Core.Path.{refl}
use native.Mathlib.Omega.{arith}
use borrow.Author.Rules.{rules}
use Rattle.render.proofs.Puts.{put-none, put_both}
use Rattle.render.proofs.Lines.{lines_next, lines-last}
use Rattle.render.proofs.all_exits.Goals as goal

pub loop-i-init : goal.loop-i-init
loop-i-init c = (omega arith, refl, λ row r p. p)

pub loop-i-preserved : goal.loop-i-preserved
loop-i-preserved c = let r = c.args.r.now in
    let l = c.loop-i in
    let next = lines_next r.two r.p r.m 64 l.i (omega arith) in (
      search rules,
      search rules,
      λ row end q. l.invariant.2 row end (rw next (put_both c.exit_lines-end.ensures.0 q)),
    )

pub returns : goal.returns
returns c = let r = c.args.r.now in
    let l = c.loop-i in
    (l.invariant.2 l.out l.end (rw (lines-last r.two r.p r.m 64 l.i (omega arith)) (put-none l.out l.end)), omega arith)
