-- `render::bound_line` meets its contract: the word, the field and byte 10, one after another.
use borrow.Author.Rules.{rules}
use Rattle.text.specs.Write.{decimal}
use Rattle.render.proofs.Puts.{put_both}
use Rattle.render.proofs.Lines.{bound_line_lem}
use Rattle.render.proofs.bound_line.Goals as goal

pub returns : goal.returns
returns c = let n = c.args.n in
    (rw (bound_line_lem (decimal n)) at (put_both (put_both c.copy-x.ensures c.field-y.ensures.0) c.copy.ensures), search rules)
