-- `first_step` is safe and ends: the span falls, and what is passed over with twice the span stays within 131,072.
use Prim.Native.Nat.{◌+◌, ◌*◌, ◌≤◌}
use Rattle.test_samples.proofs.Wish.first_step.Given as goal

abbrev pub invariant-loop-span : goal.invariant-loop-span
invariant-loop-span l = l.before + 2 * l.span ≤ 131072

abbrev pub decreases-loop-span : goal.decreases-loop-span
decreases-loop-span l = l.span
