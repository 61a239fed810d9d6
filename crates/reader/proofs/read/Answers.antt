-- `reader::read` meets its contract: no bytes are the flow `only_stop`, and every other text is read by its bytes.
use mathlib.Core.Path.{sym, ap, ◌∙◌}
use native.Mathlib.Omega.{arith}
use Rattle.std.specs.Prelude.{Ok}
use Rattle.flow.specs.Code.{reading_of}
use Rattle.flow.proofs.ReadLaws.{no_bytes, some_bytes}
use Rattle.reader.proofs.read.Goals as goal

pub returns-then-empty : goal.returns-then-empty
unfolding reading_of
returns-then-empty c = ap Ok c.only_stop.ensures ∙ sym (ap reading_of (no_bytes c.args.text.now (omega arith)))

pub returns : goal.returns
returns c = c.read_bytes.ensures ∙ sym (ap reading_of (some_bytes c.args.text.now (omega arith)))
