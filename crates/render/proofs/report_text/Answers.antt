-- `render::report_text` meets its contract: the first line and those of the exits, or the line of a refusal.
use mathlib.Core.Path.{◌≡◌}
use native.Mathlib.Omega.{arith}
use borrow.Author.Rules.{rules}
use lib.ListN.{length}
use Rattle.render.proofs.Lines.{given-text, refusal-text}
use Rattle.render.proofs.report_text.Goals as goal

pub returns-in-Ok : goal.returns-in-Ok
returns-in-Ok c = let a = c.args in
    let long : length a.out.now ≡ 4096 = search rules in
    given-text a.r a.out.now c.all_exits.new.out c.all_exits.result (omega arith) (search rules) c.word_line-at.ensures.0 c.all_exits.ensures.0

pub returns-in-Err : goal.returns-in-Err
returns-in-Err c = let a = c.args in
    let long : length a.out.now ≡ 4096 = search rules in
    refusal-text a.r a.out.now c.refusal_line.new.out c.refusal_line.result (omega arith) c.in-Err.why (search rules) c.refusal_line.ensures.0
