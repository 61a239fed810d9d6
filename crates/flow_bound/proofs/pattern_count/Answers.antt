-- `flow_bound::pattern_count` meets its contract: the stages of each number of variables (proofs/CapLaws.antt).
use borrow.Author.Rules.{rules}
use Rattle.flow_bound.proofs.CapLaws.{last_1, last_2, last_3, last_4}
use Rattle.flow_bound.proofs.pattern_count.Goals as goal

pub returns-in-1 : goal.returns-in-1
returns-in-1 c = let a = c.args in (last_1 a.v a.w _ c.in-1.is c.times_plus.ensures.0, c.times_plus.ensures.1)

pub returns-in-2 : goal.returns-in-2
returns-in-2 c = let a = c.args in let last = c.times_plus-in-2-2.ensures in
    (last_2 a.v a.w _ _ c.in-2.is c.times_plus-in-2.ensures.0 last.0, last.1)

pub returns-in-3 : goal.returns-in-3
returns-in-3 c = let a = c.args in let last = c.times_plus-in-3-3.ensures in
    (last_3 a.v a.w _ _ _ c.in-3.is c.times_plus-in-3.ensures.0 c.times_plus-in-3-2.ensures.0 last.0, last.1)

pub returns-in_default : goal.returns-in_default
returns-in_default c = let a = c.args in let last = c.times_plus-in_default-4.ensures in (
  last_4 a.v a.w _ _ _ _ (search rules) c.times_plus-in_default.ensures.0 c.times_plus-in_default-2.ensures.0
      c.times_plus-in_default-3.ensures.0 last.0,
  last.1,
)
