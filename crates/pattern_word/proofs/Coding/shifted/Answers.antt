-- `shifted` meets its contract: the fan's sum, with the digit taken away.
use native.Mathlib.Omega.{arith}
use Rattle.pattern_word.proofs.Fans as fans
use Rattle.pattern_word.proofs.Coding.shifted.Goals as goal

pub overflow_mul-result : goal.overflow_mul-result
overflow_mul-result c = record { fits = omega (arith, (fans.shift_fits _ c.args.self.now.width _ _ _ _ _ c.requires.valid c.requires.v_lt_max_variables c.requires.d_value c.unit-u.ensures).0) }

pub overflow_sub-result : goal.overflow_sub-result
overflow_sub-result c = (fans.shift_fits _ c.args.self.now.width _ _ _ _ _ c.requires.valid c.requires.v_lt_max_variables c.requires.d_value c.unit-u.ensures).0

pub overflow_mul-result-2 : goal.overflow_mul-result-2
overflow_mul-result-2 c = let (a, b, d) = fans.shift_fits _ c.args.self.now.width _ _ _ _ _ c.requires.valid c.requires.v_lt_max_variables c.requires.d_value c.unit-u.ensures in
    record { fits = omega arith }

pub overflow_add-result : goal.overflow_add-result
overflow_add-result c = let (a, b, d) = fans.shift_fits _ c.args.self.now.width _ _ _ _ _ c.requires.valid c.requires.v_lt_max_variables c.requires.d_value c.unit-u.ensures in
    record { fits = omega (arith, fans.shift_is _ c.args.self.now.width _ _ _ _ _ c.requires.valid c.requires.v_lt_max_variables c.requires.d_value c.unit-u.ensures) }

pub returns : goal.returns
returns c = fans.shift_is _ c.args.self.now.width _ _ _ _ _ c.requires.valid c.requires.v_lt_max_variables c.requires.d_value c.unit-u.ensures
