-- `run` meets its contract: the places that it computes are those of the tapes in the row (TapeLaws).
use mathlib.Core.Path.{◌≡◌, ap, ◌∙◌}
use native.Mathlib.Omega.{arith}
use borrow.Author.Rules.{rules}
use lib.ListN.{length}
use Rattle.interpreter.proofs.TapeLaws.{ends_in, start_placed, held-is}
use Rattle.interpreter.specs.Run.{Outcome, ran_of, written, tapes_put, values_put}
use Rattle.interpreter.proofs.run.Goals.{After-min-cells}
use Rattle.interpreter.proofs.run.Goals as goal

-- the lengths are three
long : (e : After-min-cells) → length e.args.lengths ≡ 3
long e = search rules

pub run_from-requires : goal.run_from-requires
run_from-requires c = record { legal = c.requires.legal; limit_le_max_steps = omega (arith, c.min-most.ensures); placed = start_placed c.args.records.now c.args.lengths (long (goal.at.run_from-requires c).After-min-cells) c.requires.lengths_in_bounds; cells_in_bounds = omega (arith, c.min-cells.ensures) }

pub returns : goal.returns
returns c = let is = held-is c.args.records.now c.args.lengths (long (goal.at.returns c).After-min-cells) c.requires.lengths_in_bounds
    c.args.flow c.args.limit c.args.numbers.now c.args.values.now
    c.min-cells.result c.min-most.result (omega (arith, c.min-cells.ensures)) c.min-most.ensures in record { value = c.run_from.ensures.value ∙ ap ran_of is; numbers_after = c.run_from.ensures.numbers_after ∙ ap (λ (w : Outcome). written (tapes_put w) c.args.numbers.now) is; values_after = c.run_from.ensures.values_after ∙ ap (λ (w : Outcome). written (values_put w) c.args.values.now) is }

pub overflow_add-b : goal.overflow_add-b
overflow_add-b c = omega (arith, ends_in c.args.records.now c.args.lengths (long (goal.at.overflow_add-b c).After-min-cells) c.requires.lengths_in_bounds)

pub overflow_add-c : goal.overflow_add-c
overflow_add-c c = omega (arith, ends_in c.args.records.now c.args.lengths (long (goal.at.overflow_add-c c).After-min-cells) c.requires.lengths_in_bounds)
