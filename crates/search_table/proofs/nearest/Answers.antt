-- `nearest` meets its contract: `find` over a range gives the first of its numbers for which the closure holds.
use mathlib.Core.Path.{◌≡◌}
use mathlib.Core.Bool.{Bool, true, false}
use Prim.Native.Nat.{ℕ}
use borrow.Author.Rules.{rules}
use borrow.Author.Tests.{tests}
use Rattle.std.proofs.lemmas.Iterator.{first_from_Range}
use Rattle.model.specs.Machine.{exit_if}
use Rattle.cells.specs.Inner.Columns.{place_field, pattern_field, word_column}
use Rattle.search_table.specs.Inner.Passes.{takes_at}
use Rattle.search_table.proofs.PassInvariant.{first_by}
use Rattle.search_table.proofs.nearest.Goals as goal

pub returns : goal.returns
unfolding takes_at
returns c =
    let test : ℕ → Bool = takes_at c.args.coding.now.w (word_column place_field c.args.cells.now) (word_column pattern_field c.args.cells.now) c.args.op c.args.instruction (exit_if c.args.exit) in
    first_by test c.args.n c.find.result (first_from_Range _ _ _ c.find.result (λ k. test k ≡ true) (λ k. test k ≡ false) c.find.ensures.ran (λ x q k. search (rules, tests)) (λ x q k. search (rules, tests)))
