-- `text::read_digits` meets its contract: the field is read as the digits from b's place on are, behind the size so far.
use mathlib.Core.Path.{sym, ap, ◌∙◌}
use native.Mathlib.Omega.{arith}
use mir.Syntax.{w64}
use mir.Facts.{to_z_pos}
use Rattle.std.specs.Prelude.{Some}
use Rattle.text.proofs.Digits.{answer, capped_so_far, digits-end, digit_at, no-digit-at}
use Rattle.text.proofs.read_digits.Goals as goal

pub returns-then-not-is_ascii_digit : goal.returns-then-not-is_ascii_digit
returns-then-not-is_ascii_digit c = let l = c.loop-b in
    sym (ap answer (no-digit-at c.args.f.now l.b-index l.n c.loop-b-test.true (sym c.is_ascii_digit.ensures.value ∙ c.if-not-is_ascii_digit.true))) ∙ l.invariant.1

pub loop-b-preserved : goal.loop-b-preserved
loop-b-preserved c = let l = c.loop-b in
    let more = digit_at c.args.f.now l.b-index l.n c.loop-b-test.true (sym c.is_ascii_digit.ensures.value ∙ c.if-not-is_ascii_digit.false) in
    (omega arith, rw (c.min-n.ensures, c.from.ensures) (capped_so_far _ _ ∙ sym (ap answer more) ∙ l.invariant.1))

pub returns : goal.returns
returns c = let l = c.loop-b in
    ap Some (to_z_pos w64 (omega arith)) ∙ sym (digits-end c.args.f.now l.b-index l.n c.loop-b-test.false l.invariant.0) ∙ l.invariant.1
