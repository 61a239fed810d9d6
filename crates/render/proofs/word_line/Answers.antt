-- `render::word_line` meets its contract: the word, the two fields and byte 10, one after another.
use borrow.Author.Rules.{rules}
use Rattle.text.specs.Write.{decimal}
use Rattle.render.proofs.Puts.{put_both}
use Rattle.render.proofs.Lines.{word_line_lem}
use Rattle.render.proofs.word_line.Goals as goal

pub returns : goal.returns
returns c = let a = c.args in
    let fields = put_both (put_both c.copy-x.ensures c.field-y.ensures.0) c.field-z.ensures.0 in
    (rw (word_line_lem a.word.now (decimal a.a) (decimal a.b)) at (put_both fields c.copy.ensures), search rules)
