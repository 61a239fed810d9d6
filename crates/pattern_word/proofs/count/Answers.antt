-- `count` meets its contract: n is the number from the i-th value on (proofs/Ranks.antt).
use mathlib.Core.Path.{◌≡◌, ap, ◌∙◌}
use mathlib.Core.List.{List}
use Prim.Native.Nat.{ℕ, ◌-◌, ◌≤◌}
use native.Mathlib.Omega.{arith}
use borrow.Author.Rules.{rules}
use lib.ListN.{length, drop, length-drop}
use Rattle.pattern_word.specs.Inner.Pattern.{different_within}
use Rattle.pattern_word.proofs.Ranks as ranks
use Rattle.pattern_word.proofs.count.Goals.{else-p-x-via-then-p-x+then-x-q+else-not-contains, else-p-x-via-then-p-x+else-x-q, else-p-x-via-else-p-x}
use Rattle.pattern_word.proofs.count.Goals as goal

pub loop-i-init : goal.loop-i-init
loop-i-init c = ranks.count-end c.args.p c.args.q c.args.values 4 (search rules)

few : (p q i : ℕ) (v : List ℕ) → length v ≡ 4 → different_within p q (drop i v) ≤ 4
few p q i v h = omega (arith, ranks.among-length p q (drop i v), length-drop i v)

pub overflow_add-n : goal.overflow_add-n
overflow_add-n c = let l = c.loop-i in record { fits = omega (arith, l.invariant, few c.args.p c.args.q l.i c.args.values (search rules)) }

pub loop-i-preserved-then-not-contains : goal.loop-i-preserved-then-not-contains
loop-i-preserved-then-not-contains c = let l = c.loop-i in
    ranks.count-new c.args.p c.args.q c.args.values l.i (l.i - 1) _ (omega (arith, c.loop-i-test.true)) (search rules) l.invariant (search rules) _ _ _ c.contains.ensures.value (omega (arith, c.loop-i-test.true)) (omega (arith, c.loop-i-test.true))
    c.if-p-x.true c.if-x-q.true c.if-not-contains.true

pub loop-i-preserved : goal.loop-i-preserved
loop-i-preserved c = let l = c.loop-i in elim c.else-p-x.branch [
  | else-p-x-via-then-p-x+then-x-q+else-not-contains w ↦
      ranks.count-again c.args.p c.args.q c.args.values l.i (l.i - 1) _ (omega (arith, c.loop-i-test.true)) (search rules) l.invariant (search rules) _ _ _ w.contains.ensures.value (omega (arith, c.loop-i-test.true)) (omega (arith, c.loop-i-test.true))
      w.if-p-x.true w.if-x-q.true w.if-not-contains.false
  | else-p-x-via-then-p-x+else-x-q w ↦
      ranks.count-over c.args.p c.args.q c.args.values l.i (l.i - 1) _ (omega (arith, c.loop-i-test.true)) (search rules) l.invariant w.if-p-x.true w.if-x-q.false
  | else-p-x-via-else-p-x w ↦
      ranks.count-under c.args.p c.args.q c.args.values l.i (l.i - 1) _ (omega (arith, c.loop-i-test.true)) (search rules) l.invariant w.if-p-x.false
]

pub returns : goal.returns
returns c = let l = c.loop-i in
    let last : l.i ≡ 0 = omega (arith, c.loop-i-test.false) in (
      l.invariant ∙ ap (λ (i : ℕ). different_within c.args.p c.args.q (drop i c.args.values)) last,
      omega (arith, l.invariant, few c.args.p c.args.q l.i c.args.values (search rules)),
    )
