-- `render::exit_lines` meets its contract: the line of p and that of m, or no line.
use borrow.Author.Rules.{rules}
use Rattle.text.specs.Write.{ended}
use Rattle.render.proofs.Puts.{put-none, put_both}
use Rattle.render.proofs.Lines.{two-lines}
use Rattle.render.proofs.exit_lines.Goals as goal

pub returns-then-two : goal.returns-then-two
returns-then-two c = let both = put_both c.exit_line-a.ensures.0 c.exit_line.ensures.0 in
    let p = rw two-lines at both in
    (rw c.if-two.true p, search rules)

pub returns : goal.returns
unfolding ended
returns c = (rw c.if-two.false (put-none _ _), search rules)
