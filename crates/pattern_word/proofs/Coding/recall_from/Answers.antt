-- `Coding::recall_from` meets its contract: the codes up to x-index are written, and k is the key of the ranks that are left
-- (proofs/Recalled.antt).
use mathlib.Core.Path.{◌∙◌}
use borrow.Author.Rules.{rules}
use lib.ListN.{drop}
use Rattle.pattern_word.proofs.Recalled as recalled
use Rattle.pattern_word.proofs.Coding.recall_from.Goals.{then-self-x, else-self-x}
use Rattle.pattern_word.proofs.Coding.recall_from.Goals as goal

pub loop-x-preserved : goal.loop-x-preserved
loop-x-preserved c r o e =
    let (s, p, q, is) = c.loop-x.invariant r o e in
    elim c.if-self-x.branch [
      | then-self-x w ↦ (
        drop 1 s,
        recalled.octal_rest c.args.self.now.w c.loop-x.k c.loop-x.x-index c.loop-x.x-items s (search rules) p q,
        rw w.k-is (recalled.key-rest c.args.self.now.w c.loop-x.k c.loop-x.x-index c.loop-x.x-items s (search rules) p q),
        rw w.x-items-is (recalled.recall_written c.args.self.now.w c.loop-x.k c.loop-x.x-index c.loop-x.x-items s (search rules) p q w.if-self-x.true ∙ is),
      )
      | else-self-x w ↦ (
        s,
        p,
        rw w.k-is q,
        rw w.x-items-is (recalled.recall_left c.args.self.now.w c.loop-x.k c.loop-x.x-index c.loop-x.x-items s (search rules) p q w.if-self-x.false ∙ is),
      )
    ]

pub returns : goal.returns
returns c r o e =
    let (s, p, q, is) = c.loop-x.invariant r o e in
    recalled.all_recalled c.args.self.now.w s c.loop-x.x-items c.loop-x.x-index (search rules) ∙ is
