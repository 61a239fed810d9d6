-- `outside_row::Table::key_at` meets its contract: the keys for v variables end where those for one variable more begin.
use mathlib.Core.Path.{◌∙◌}
use native.Mathlib.Omega.{arith}
use Rattle.outside_row.proofs.Filling.{listed_within}
use Rattle.outside_row.proofs.Looked.{count-is, is_listed, key-is, key_past}
use Rattle.outside_row.specs.Inner.Table.{HasEntry}
use Rattle.outside_row.proofs.Table.key_at.Goals.{Then-i-first}
use Rattle.outside_row.proofs.Table.key_at.Goals as goal

listed : (c : Then-i-first) → HasEntry c.args.v c.args.n
listed c =
    is_listed _ _ _ _ c.requires.le_v.0 c.requires.le_v.1 c.first-start.ensures c.first.ensures (omega (arith, c.if-i-first.true))

pub overflow_sub-first : goal.overflow_sub-first
overflow_sub-first c = omega (arith, count-is _ 0 _ _ c.requires.le_v.0 c.requires.le_v.1 c.first-start.ensures c.first.ensures)

pub offset_bounds-self-start : goal.offset_bounds-self-start
offset_bounds-self-start c = record { fits = omega (arith, listed_within _ _ (listed (goal.at.offset_bounds-self-start c).Then-i-first), c.first-start.ensures) }

pub bounds-self-start : goal.bounds-self-start
bounds-self-start c = omega (arith, listed_within _ _ (listed (goal.at.bounds-self-start c).Then-i-first), c.first-start.ensures, c.args.self.now.is.size)

pub returns-then-i-first : goal.returns-then-i-first
returns-then-i-first c =
    c.from.ensures ∙ key-is _ _ _ _ c.requires.le_v.0 c.requires.le_v.1 c.first-start.ensures c.first.ensures _ c.args.self.now.is c.if-i-first.true

pub returns-else-i-first : goal.returns-else-i-first
returns-else-i-first c = key_past _ _ _ _ c.requires.le_v.0 c.requires.le_v.1 c.first-start.ensures c.first.ensures c.if-i-first.false
