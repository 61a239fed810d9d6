-- `Coding::codes` meets its contract: those up to x-index are written (proofs/Turns.antt).
use mathlib.Core.Path.{refl, ◌∙◌}
use mathlib.Core.List.{map}
use borrow.Author.Rules.{rules}
use Rattle.pattern_word.specs.Inner.Pattern.{lane_code, codes_of}
use Rattle.pattern_word.proofs.Turns as turns
use Rattle.pattern_word.proofs.Coding.codes.Goals as goal

pub loop-x-preserved : goal.loop-x-preserved
loop-x-preserved c = let l = c.loop-x in
    rw c.code.ensures (turns.map_turn (lane_code c.args.self.now.w c.args.values) l.x-items l.x-index (search rules) ∙ l.invariant)

pub returns : goal.returns
unfolding codes_of
returns c = let l = c.loop-x in turns.all_written (map (lane_code c.args.self.now.w c.args.values)) refl l.x-items l.x-index (search rules) ∙ l.invariant
