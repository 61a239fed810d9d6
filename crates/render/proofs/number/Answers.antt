-- `render::number` meets its contract: the digits that `io` gives are the number's decimal, at most 20 bytes.
use native.Mathlib.Omega.{arith}
use Rattle.text.proofs.Decimal.{decimal-short}
use Rattle.render.proofs.Digits.{decimal_taken}
use Rattle.render.proofs.number.Goals as goal

pub returns : goal.returns
returns c = let n = c.args.n in
    let d = c.decimal-k in
    let p = rw (decimal_taken d.result n d.new.out d.ensures.len d.ensures.digits) at c.copy.ensures in
    (p, omega (arith, p.end, decimal-short 19 n (omega arith)))
