-- `store` meets its contract: no code of a variable outside, or the index of the entry.
use native.Mathlib.Omega.{arith}
use Rattle.pattern_word.proofs.Recalled as recalled
use Rattle.pattern_word.proofs.Coding.store.Goals as goal

pub slots-s-requires : goal.slots-s-requires
slots-s-requires c = recalled.codes_under _ c.args.self.now.width _ c.requires

pub returns-then-s-eq0 : goal.returns-then-s-eq0
returns-then-s-eq0 c = recalled.store_none _ c.args.self.now.width _ c.requires (omega (arith, c.slots-s.ensures.0))

pub returns : goal.returns
returns c = let s = c.slots-s.ensures in
    recalled.store_some _ c.args.self.now.width _ c.requires _ _
    (c.index_at.ensures.1 _ (recalled.store_entry _ c.args.self.now.width _ c.requires _ s.0 (λ e. omega (arith, e))) s.0) c.store_from.ensures
