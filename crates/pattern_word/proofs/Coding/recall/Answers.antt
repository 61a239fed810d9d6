-- `recall` meets its contract: no digit of a variable outside, or the entry of the table.
use native.Mathlib.Omega.{arith}
use Rattle.pattern_word.proofs.Recalled as recalled
use Rattle.pattern_word.proofs.Coding.recall.Goals as goal

pub returns-then-v-eq0 : goal.returns-then-v-eq0
returns-then-v-eq0 c = recalled.recall_none _ _ (omega (arith, c.outs-v.ensures.0))

pub returns : goal.returns
returns c = recalled.recall_some _ _ _ _ _ _ c.outs-v.ensures.0 c.index.ensures
    c.key_at.ensures c.recall_from.ensures
