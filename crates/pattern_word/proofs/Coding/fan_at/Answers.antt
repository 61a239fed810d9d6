-- `fan_at` meets its contract: a record from C1 to C2 adds its offset in lane v to the first member.
use native.Mathlib.Omega.{arith}
use Rattle.pattern_word.proofs.Fans as fans
use Rattle.pattern_word.proofs.Coding.fan_at.Goals as goal

pub overflow_mul-result : goal.overflow_mul-result
overflow_mul-result c = let f = fans.member_fits _ c.args.self.now.width _ _ _ _ (c.is_inside.ensures.v_lt_max_variables c.if-is_inside.true) c.requires.first_value c.unit.ensures in
    record { fits = omega arith }

pub overflow_add-result : goal.overflow_add-result
overflow_add-result c = record { fits = fans.member_fits _ c.args.self.now.width _ _ _ _ (c.is_inside.ensures.v_lt_max_variables c.if-is_inside.true) c.requires.first_value c.unit.ensures }

pub returns-then-is_inside : goal.returns-then-is_inside
returns-then-is_inside c = fans.member-sum _ c.args.self.now.width _ _ _ _ (c.is_inside.ensures.v_lt_max_variables c.if-is_inside.true) c.requires.first_value c.unit.ensures
