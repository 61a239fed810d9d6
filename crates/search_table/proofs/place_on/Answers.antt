-- `place_on` meets its contract: two reads, one after the other.
use mathlib.Core.Path.{ap, ◌∙◌}
use Prim.Native.Nat.{ℕ}
use lib.ListN.{get_or}
use Rattle.cells.specs.Inner.Columns.{place_field, word_column}
use Rattle.search_table.proofs.place_on.Goals as goal

pub returns : goal.returns
returns c = c.word.ensures ∙ ap (λ (k : ℕ). get_or (word_column place_field c.args.cells.now) k 0) (c.get-k.ensures)
