-- `forms::prepare` meets its contract: the row's numbers are prepared, and its kind gives them their form.
use mathlib.Core.Path.{◌≡◌, ap, ◌∙◌}
use Prim.Native.Nat.{ℕ, min}
use borrow.Author.Rules.{rules}
use lib.IntN.{ℤ}
use mir.Syntax.{w32}
use mir.Val.{SFits, to_z, of_z}
use mir.Facts.{to_z-of_z}
use Rattle.flow.specs.Words.{count}
use Rattle.constants.proofs.Offsets.{offset_bits}
use Rattle.configuration.proofs.Prepared.{prepared}
use Rattle.configuration.proofs.forms.prepare.Goals.{Start}
use Rattle.configuration.proofs.forms.prepare.Goals as goal

-- a number of the row, in a byte
in-byte : (z : ℤ) → SFits w32 z → (r : ℕ) → r ≡ min (count (to_z w32 (of_z w32 z))) 255 → r ≡ min (count z) 255
in-byte z f r e = e ∙ ap (λ (y : ℤ). min (count y) 255) (to_z-of_z f)

narrow : (s : Start) → let x = s.args.x in SFits w32 x.first × SFits w32 x.second × SFits w32 x.third × SFits w32 x.fourth
narrow s = (search rules, search rules, search rules, search rules)

pub returns : goal.returns
returns c = let x = c.args.x in
    prepared c.args.lo x c.requires
    (in-byte x.first (narrow (goal.at.returns c).Start).0 _ c.byte-a.ensures)
    (in-byte x.second (narrow (goal.at.returns c).Start).1 _ c.byte-b.ensures)
    (in-byte x.third (narrow (goal.at.returns c).Start).2 _ c.byte-c.ensures)
    (in-byte x.fourth (narrow (goal.at.returns c).Start).3 _ c.byte-d.ensures)
    (offset_bits x.first c.args.lo (narrow (goal.at.returns c).Start).0 c.ranges.lo _ c.offset_of-u.ensures)
    (offset_bits x.second c.args.lo (narrow (goal.at.returns c).Start).1 c.ranges.lo _ c.offset_of-v.ensures)
    c.form.ensures
