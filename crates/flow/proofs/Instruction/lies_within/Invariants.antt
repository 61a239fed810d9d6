-- `Instruction::lies_within` meets its contract: what the fields that are left come to is what all of them come to.
use Rattle.std.specs.Prelude.{◌≡◌, Option, ℤ}
use Rattle.std.specs.Iterator.Adapters.{zip_first, zip_second}
use Rattle.std.specs.Slice.Iter.{iter_rest}
use Rattle.model.specs.Language.{fields}
use Rattle.flow.specs.Read.{all, lies_within}
use Rattle.flow.specs.Inner.Rows.{instruction_of}
use Rattle.flow.specs.declared.Sort.{Sort}
use Rattle.flow.proofs.RowLaws.{paired}
use Rattle.flow.proofs.Instruction.lies_within.Given as goal

abbrev pub invariant-loop-sort : goal.invariant-loop-sort
invariant-loop-sort g l =
    let rest = paired (iter_rest (zip_first l.sort-iterator)) (iter_rest (zip_second l.sort-iterator)) in
    ((ranges : Sort → Option (ℤ × ℤ)) → ((s : Sort) (r : Option (ℤ × ℤ)) → goal.R-post g l.range s r → r ≡ ranges s) → all (lies_within ranges) rest ≡ all (lies_within ranges) (fields (instruction_of l.fn.self)))
    × (goal.iterator-loop-sort g).can_next l.sort-iterator × (goal.iterator-loop-sort g).is_finite l.sort-iterator
