-- `outside_row::Table::new` meets its contract: each load begins where the one before ended (proofs/Filling.antt).
use mathlib.Core.Path.{◌≡◌, refl, subst}
use Prim.Native.Nat.{ℕ}
use native.Mathlib.Omega.{arith}
use Rattle.outside_row.specs.Inner.Table.{first_of}
use Rattle.outside_row.specs.Inner.Filling.{LoadedTo, ones_of}
use Rattle.outside_row.proofs.Filling.{fill_first, ones_next, ones_few, fill_last}
use Rattle.outside_row.proofs.Table.new.Goals as goal

pub loop-v-init : goal.loop-v-init
unfolding ones_of
loop-v-init c = (fill_first _ refl, refl)

pub overflow_mul-ones : goal.overflow_mul-ones
overflow_mul-ones c = record { fits = omega (arith, ones_few _ _ (omega (arith, c.loop-v-test.true)) c.loop-v.invariant.1) }

pub overflow_add-ones : goal.overflow_add-ones
overflow_add-ones c = record { fits = omega (arith, ones_few _ _ (omega (arith, c.loop-v-test.true)) c.loop-v.invariant.1) }

pub load-requires-clause-le_v : goal.load-requires-clause-le_v
load-requires-clause-le_v c = let l = c.loop-v in (l.auto.v, omega (arith, c.loop-v-test.true), ones_next _ _ _ (omega (arith, l.auto.v)) l.invariant.1)

pub loop-v-preserved : goal.loop-v-preserved
loop-v-preserved c = let l = c.loop-v in (c.load.ensures, ones_next _ _ _ (omega (arith, l.auto.v)) l.invariant.1)

pub invariant_of-result : goal.invariant_of-result
invariant_of-result c = let l = c.loop-v in
    let last : l.v ≡ 5 = omega (arith, l.auto.v-end, c.loop-v-test.false) in
    record { is = fill_last _ (subst (λ (v : ℕ). LoadedTo (first_of v) l.row) last l.invariant.0) }
