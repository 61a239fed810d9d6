-- `print_lent` lends no more cells than there are: a bound that is given is at most 65,536.
use Rattle.std.proofs.Common.{rules, arith, ℕ, ◌≡◌, ◌≤◌, List, sym, ap, ◌∙◌, Option, Some, Result, Ok}
use Rattle.flow.specs.Read.{read_flow}
use Rattle.flow.specs.declared.Refusal.{Refusal}
use Rattle.tape_maker.specs.Bound.{bound_in}
use Rattle.tape_maker.proofs.BoundLaws.{bound_for}
use Rattle.test_bounds.proofs.print_lent.Goals as goal

lent : (text : List ℕ) (r : Result (Option ℕ) Refusal) (n : ℕ) → r ≡ bound_in (read_flow text) → r ≡ Ok (Some n) → n ≤ 65536
lent text r n is given = omega (arith, (bound_for text n (sym is ∙ given)).used)

pub slice_bounds-cells-end : goal.slice_bounds-cells-end
slice_bounds-cells-end g c = lent _ _ _ c.bound-bound.ensures (c.in-Ok-Some.is ∙ ap Ok (rw c.in-Ok-Some.is at c.in-Ok-Some.field-0-is))

pub slice_bounds-report-end : goal.slice_bounds-report-end
slice_bounds-report-end g c = let few = lent _ _ _ c.bound-bound.ensures (c.in-Ok-Some.is ∙ ap Ok (rw c.in-Ok-Some.is at c.in-Ok-Some.field-0-is)) in
    search rules
