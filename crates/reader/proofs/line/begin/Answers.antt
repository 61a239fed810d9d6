-- `line::begin` meets its contract: each way out is one of the definition's checks.
use Prim.Native.Nat.{◌+◌}
use native.Mathlib.Omega.{arith}
use borrow.Author.Tests.{le-leb, lt-leb, eq-eqb, ne_eqb}
use Rattle.reader.specs.Inner.Line.{begin_line}
use Rattle.reader.proofs.LineLaws.{given_asked, left_by}
use Rattle.reader.proofs.line.begin.Goals as goal

pub returns-then-count-eq-MAX_INSTRUCTIONS : goal.returns-then-count-eq-MAX_INSTRUCTIONS
unfolding begin_line
returns-then-count-eq-MAX_INSTRUCTIONS c = rw (lt-leb (c.args.count + 1) 64 (omega arith))

pub returns-in_err-kind : goal.returns-in_err-kind
unfolding begin_line
returns-in_err-kind c =
    rw (left_by _ c.from_residual.ensures.1, le-leb (c.args.count + 1) 64 (omega arith), given_asked, ← c.get.ensures, ← c.from_word.ensures, ← c.in_err-kind.ensures.value)

pub returns-then-count-sorts : goal.returns-then-count-sorts
unfolding begin_line
returns-then-count-sorts c =
    rw (
      le-leb (c.args.count + 1) 64 (omega arith),
      given_asked,
      ← c.get.ensures,
      ← c.from_word.ensures,
      ← c.in_ok-kind.ensures.value,
      ← c.sorts.ensures,
      ← c.count.ensures,
      ne_eqb _ _ c.if-count-sorts.true,
    )

pub returns-in_err-number : goal.returns-in_err-number
unfolding begin_line
returns-in_err-number c =
    rw (
      left_by _ c.from_residual-in_err-number.ensures.1,
      le-leb (c.args.count + 1) 64 (omega arith),
      given_asked,
      ← c.get.ensures,
      ← c.from_word.ensures,
      ← c.in_ok-kind.ensures.value,
      ← c.sorts.ensures,
      ← c.count.ensures,
      eq-eqb _ _ c.if-count-sorts.false,
      given_asked,
      ← c.small_at.ensures,
      ← c.in_err-number.ensures.value,
    )

pub returns : goal.returns
unfolding begin_line
returns c =
    rw (
      le-leb (c.args.count + 1) 64 (omega arith),
      given_asked,
      ← c.get.ensures,
      ← c.from_word.ensures,
      ← c.in_ok-kind.ensures.value,
      ← c.sorts.ensures,
      ← c.count.ensures,
      eq-eqb _ _ c.if-count-sorts.false,
      given_asked,
      ← c.small_at.ensures,
      ← c.in_ok-number.ensures.value,
    )
