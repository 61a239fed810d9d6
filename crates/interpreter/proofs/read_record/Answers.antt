-- `read_record` meets its contract: the test on the places is whether a record is left of the tape, and the two laws on a read
-- (ArrayLaws) give the step. A record fits an i32, so that it is read as it is.
use mathlib.Core.Path.{◌≡◌, ap, ap₂, subst}
use Prim.Native.Nat.{ℕ, ◌+◌, ◌-◌, ◌≤◌, ◌<◌}
use native.Mathlib.Omega.{arith}
use borrow.Author.Rules.{sfits_of}
use mir.Syntax.{w32}
use mir.Facts.{to_z-of_z}
use lib.ListN.{get_or, set}
use lib.IntN.{ℤ}
use Rattle.flow.specs.declared.Instruction.{Instruction as Row}
use Rattle.flow.specs.declared.Kind.TheVariants.{Read}
use Rattle.interpreter.proofs.ArrayLaws.{fits_kind, read_none, read_some}
use Rattle.interpreter.specs.Inner.Arrays.{RowFits, count_at}
use Rattle.interpreter.proofs.read_record.Goals as goal

-- the tape is one of three
tape_fits : (x : Row) → x.kind ≡ Read → RowFits x → count_at x 0 - 1 < 3
unfolding RowFits
tape_fits x is fits = let f = fits_kind x is fits in omega (arith, f.0)

pub returns-then-ends-i : goal.returns-then-ends-i
returns-then-ends-i c = read_none c.args.x _ _ _ _ c.requires.kind_value c.requires.placed (tape_fits c.args.x c.requires.kind_value c.requires.row_fits)
    (subst (λ (n : ℕ). get_or c.args.ends.now (n - 1) 0 ≤ get_or c.args.at.now (n - 1) 0) c.count-i.ensures c.if-ends-i.true)
    c.either.ensures

pub returns : goal.returns
returns c =
    let a = c.args in
    let n = c.count-i.result in
    read_some a.x _ _ _ _ c.requires.kind_value c.requires.placed (tape_fits c.args.x c.requires.kind_value c.requires.row_fits)
    (get_or a.at.now (n - 1) 0) (ap (λ (i : ℕ). get_or a.at.now (i - 1) 0) c.count-i.ensures)
    (subst (λ (i : ℕ). get_or a.at.now (n - 1) 0 < get_or a.ends.now (i - 1) 0) c.count-i.ensures c.if-ends-i.false)
    (ap₂ (λ (i : ℕ) (y : ℤ). set a.variables.now (i - 1) y) c.count-j.ensures (to_z-of_z {w = w32} (sfits_of c.y-1.given)))
    (ap (λ (i : ℕ). set a.at.now (i - 1) (get_or a.at.now (n - 1) 0 + 1)) c.count-i.ensures)
    c.either-2.ensures
