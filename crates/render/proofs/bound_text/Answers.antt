-- `render::bound_text` meets its contract, by the answer.
use mathlib.Core.Path.{◌≡◌}
use native.Mathlib.Omega.{arith}
use borrow.Author.Rules.{rules}
use lib.ListN.{length}
use Rattle.std.specs.Prelude.{Some, None, Ok, Err}
use Rattle.render.proofs.Lines.{bound-put}
use Rattle.render.proofs.bound_text.Goals as goal

pub returns-in-Ok-Some : goal.returns-in-Ok-Some
returns-in-Ok-Some c = let a = c.args in
    let long : length a.out.now ≡ 64 = search rules in
    bound-put a.r (Ok (Some c.in-Ok-Some.n)) a.out.now c.bound_line.new.out c.bound_line.result (omega arith) (search rules) c.bound_line.ensures.0

pub returns-in-Ok-None : goal.returns-in-Ok-None
returns-in-Ok-None c = let a = c.args in
    let long : length a.out.now ≡ 64 = search rules in
    let put = c.copy.ensures in
    bound-put a.r (Ok None) a.out.now c.copy.new.out c.copy.result (omega (arith, put.end)) (search rules) put

pub returns-in-Err : goal.returns-in-Err
returns-in-Err c = let a = c.args in
    let long : length a.out.now ≡ 64 = search rules in
    bound-put a.r (Err c.in-Err.why) a.out.now c.refusal_line.new.out c.refusal_line.result (omega arith) (search rules) c.refusal_line.ensures.0
