-- `lines::read_head` meets its contract: each way out is one of the definition's checks.
use mathlib.Core.Path.{◌≡◌, sym}
use mathlib.Core.Bool.{true}
use mathlib.Core.List.{[]}
use borrow.Author.Tests.{eq-eqb, ne_eqb}
use lib.Dec.{eqb}
use lib.ListN.{length, get_or}
use Rattle.std.proofs.lemmas.Bool.{not-false, not-true}
use Rattle.text.specs.Bytes.{bytes}
use Rattle.text.specs.Split.{split, same_word}
use Rattle.text.proofs.Words.{same_word_eq}
use Rattle.reader.proofs.HeadLaws.{head_steps}
use Rattle.reader.proofs.LineLaws.{left_by}
use Rattle.reader.proofs.lines.read_head.Goals.{Else-ne, Else-count-ne4}
use Rattle.reader.proofs.lines.read_head.Goals as goal

-- its word is the right one
worded : (c : Else-ne) → same_word (get_or (split c.args.line.now) 0 []) (bytes "flow") ≡ true
worded c = not-false _ (sym (rw (c.as_slice.ensures, same_word_eq, c.get.ensures, c.new-fields.ensures.same_line) at c.if-ne.ensures))

-- its fields are counted
counted : (c : Else-count-ne4) → eqb (length (split c.args.line.now)) 4 ≡ true
counted c = rw (← c.new-fields.ensures.same_line, ← c.count.ensures) (eq-eqb _ _ c.if-count-ne4.false)

pub returns-then-ne : goal.returns-then-ne
returns-then-ne c =
    let other = not-true _ (sym (rw (c.as_slice.ensures, same_word_eq, c.get.ensures, c.new-fields.ensures.same_line) at c.if-ne.ensures)) in
    rw (head_steps, other)

pub returns-then-count-ne4 : goal.returns-then-count-ne4
returns-then-count-ne4 c =
    rw (head_steps, worded (goal.at.returns-then-count-ne4 c).Else-ne, ← c.new-fields.ensures.same_line, ← c.count.ensures, ne_eqb _ _ c.if-count-ne4.true)

pub returns-in_err-tapes : goal.returns-in_err-tapes
returns-in_err-tapes c =
    let at = goal.at.returns-in_err-tapes c in
    rw (
      left_by _ c.from_residual.ensures.1,
      head_steps,
      worded at.Else-ne,
      counted at.Else-count-ne4,
      ← c.new-fields.ensures.same_line,
      ← c.small_at.ensures,
      ← c.in_err-tapes.ensures.value,
    )

pub returns-in_err-outputs : goal.returns-in_err-outputs
returns-in_err-outputs c =
    let at = goal.at.returns-in_err-outputs c in
    rw (
      left_by _ c.from_residual-in_err-outputs.ensures.1,
      head_steps,
      worded at.Else-ne,
      counted at.Else-count-ne4,
      ← c.new-fields.ensures.same_line,
      ← c.small_at.ensures,
      ← c.in_ok-tapes.ensures.value,
      ← c.small_at-2.ensures,
      ← c.in_err-outputs.ensures.value,
    )

pub returns-in_err-variables : goal.returns-in_err-variables
returns-in_err-variables c =
    let at = goal.at.returns-in_err-variables c in
    rw (
      left_by _ c.from_residual-in_err-variables.ensures.1,
      head_steps,
      worded at.Else-ne,
      counted at.Else-count-ne4,
      ← c.new-fields.ensures.same_line,
      ← c.small_at.ensures,
      ← c.in_ok-tapes.ensures.value,
      ← c.small_at-2.ensures,
      ← c.in_ok-outputs.ensures.value,
      ← c.small_at-3.ensures,
      ← c.in_err-variables.ensures.value,
    )

pub returns : goal.returns
returns c =
    let at = goal.at.returns c in
    rw (
      head_steps,
      worded at.Else-ne,
      counted at.Else-count-ne4,
      ← c.new-fields.ensures.same_line,
      ← c.small_at.ensures,
      ← c.in_ok-tapes.ensures.value,
      ← c.small_at-2.ensures,
      ← c.in_ok-outputs.ensures.value,
      ← c.small_at-3.ensures,
      ← c.in_ok-variables.ensures.value,
    )
    c.head.ensures
