-- `Coding::index` meets its contract: no digit before x-index is that of a variable outside (proofs/Recalled.antt).
use mathlib.Core.Path.{refl, sym, ap, ◌∙◌}
use borrow.Author.Rules.{rules}
use lib.ListN.{get_or}
use Rattle.pattern_word.proofs.Recalled as recalled
use Rattle.pattern_word.proofs.Coding.index.Goals as goal

pub returns-then-self-x : goal.returns-then-self-x
returns-then-self-x c =
    ap (λ l. get_or l 0 0) (sym (recalled.drop_outside c.args.self.now.w c.args.d _ c.loop-x.x-index refl (search rules) c.if-self-x.true) ∙ c.loop-x.invariant)

pub loop-x-preserved : goal.loop-x-preserved
loop-x-preserved c = sym (recalled.drop_inside c.args.self.now.w c.args.d _ c.loop-x.x-index refl (search rules) c.if-self-x.false) ∙ c.loop-x.invariant

pub returns : goal.returns
returns c = ap (λ l. get_or l 0 0) (sym (recalled.excess-end c.args.self.now.w c.args.d c.loop-x.x-index (search rules)) ∙ c.loop-x.invariant)
