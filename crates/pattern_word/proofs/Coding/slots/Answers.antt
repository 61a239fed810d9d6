-- `Coding::slots` meets its contract: s is the slot of the ranks from the i-th code on (proofs/Recalled.antt).
use mathlib.Core.Path.{◌≡◌, sym, ap, ◌∙◌}
use Prim.Native.Nat.{ℕ, ◌-◌}
use native.Mathlib.Omega.{arith}
use borrow.Author.Rules.{rules}
use lib.ListN.{drop}
use Rattle.outside_row.specs.Inner.Table.{slot_of}
use Rattle.pattern_word.specs.Inner.Pattern.{excess}
use Rattle.pattern_word.proofs.Recalled as recalled
use Rattle.pattern_word.proofs.Coding.slots.Goals as goal

pub loop-i-init : goal.loop-i-init
unfolding slot_of
loop-i-init c = ap slot_of (sym (recalled.excess-end c.args.self.now.w c.args.c 4 (search rules)))

pub overflow_mul-s : goal.overflow_mul-s
overflow_mul-s c = let l = c.loop-i in record { fits = omega (arith, l.invariant, recalled.slots-few c.args.self.now.w c.args.c l.i c.requires (search rules)) }

pub overflow_add-s : goal.overflow_add-s
overflow_add-s c = let l = c.loop-i in
    record { fits = omega (arith, l.invariant, recalled.slots-few c.args.self.now.w c.args.c l.i c.requires (search rules), c.requires (l.i - 1)) }

pub overflow_add-s-then-self-c : goal.overflow_add-s-then-self-c
overflow_add-s-then-self-c c = let l = c.loop-i in
    record { fits = omega (arith, l.invariant, recalled.slots-few c.args.self.now.w c.args.c l.i c.requires (search rules), c.requires (l.i - 1)) }

pub loop-i-preserved-then-self-c : goal.loop-i-preserved-then-self-c
loop-i-preserved-then-self-c c = let l = c.loop-i in
    recalled.slot_outside c.args.self.now.w c.args.c l.i (l.i - 1) (omega (arith, c.loop-i-test.true)) (search rules) c.if-self-c.true _ l.invariant

pub loop-i-preserved : goal.loop-i-preserved
loop-i-preserved c = let l = c.loop-i in
    recalled.slot_inside c.args.self.now.w c.args.c l.i (l.i - 1) (omega (arith, c.loop-i-test.true)) (search rules) c.if-self-c.false _ l.invariant

pub returns : goal.returns
returns c = let l = c.loop-i in
    let last : l.i ≡ 0 = omega (arith, c.loop-i-test.false) in
    let is : l.s ≡ slot_of (excess c.args.self.now.w c.args.c) = l.invariant ∙ ap (λ (i : ℕ). slot_of (excess c.args.self.now.w (drop i c.args.c))) last in
    (is, omega (arith, is, recalled.slots-few c.args.self.now.w c.args.c 0 c.requires (search rules)))
