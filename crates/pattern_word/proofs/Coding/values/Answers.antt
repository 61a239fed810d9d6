-- `Coding::values` meets its contract: those up to x-index are written (proofs/Turns.antt).
use mathlib.Core.Path.{refl, ap, ◌∙◌}
use mathlib.Core.List.{map}
use native.Mathlib.Omega.{arith}
use borrow.Author.Rules.{rules}
use lib.ListN.{get_or}
use Rattle.pattern_word.specs.Inner.Pattern.{value_of, values_of}
use Rattle.pattern_word.proofs.Turns as turns
use Rattle.pattern_word.proofs.Coding.values.Goals as goal

pub value-requires : goal.value-requires
value-requires c = let l = c.loop-x in
    omega (arith, turns.head-drop l.x-items l.x-index, turns.head-drop c.args.c l.x-index, ap (λ r. get_or r 0 0) l.invariant.1, c.requires l.x-index)

pub loop-x-preserved : goal.loop-x-preserved
loop-x-preserved c = let l = c.loop-x in (
  rw c.value.ensures (turns.map_turn (value_of c.args.self.now.w) l.x-items l.x-index (search rules) ∙ l.invariant.0),
  turns.rest_kept l.x-items c.args.c l.x-index _ l.invariant.1,
)

pub returns : goal.returns
unfolding values_of
returns c = let l = c.loop-x in turns.all_written (map (value_of c.args.self.now.w)) refl l.x-items l.x-index (search rules) ∙ l.invariant.0
