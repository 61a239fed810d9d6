-- `Fields::get` meets its contract: field k stands between where it begins and where it ends.
use mathlib.Core.Path.{◌≡◌}
use native.Mathlib.Omega.{arith}
use Rattle.text.specs.Inner.Divided.{begins, Between}
use Rattle.text.proofs.Dividing.{begins-first, begins-later, field_cut}
use Rattle.text.proofs.Fields.get.Goals.{Joined-k-eq0, then-k-eq0, else-k-eq0}
use Rattle.text.proofs.Fields.get.Goals as goal

starts : (c : Joined-k-eq0) → begins c.args.self.now.ends c.args.k ≡ c.if-k-eq0.start
starts c = elim c.if-k-eq0.branch [
  | then-k-eq0 w ↦ rw w.start-is (begins-first _ _ w.if-k-eq0.true)
  | else-k-eq0 w ↦ rw w.start-is (begins-later _ _ w.if-k-eq0.false)
]

between : (c : Joined-k-eq0) → Between c.args.self.now.line.now c.args.self.now.ends c.args.k
between c = c.args.self.now.divided.between c.args.k c.requires (omega arith)

pub slice_bounds-result-count : goal.slice_bounds-result-count
slice_bounds-result-count c = let at = (goal.at.slice_bounds-result-count c).Joined-k-eq0 in omega (arith, starts at, between at)

pub slice_bounds-result-start : goal.slice_bounds-result-start
slice_bounds-result-start c = let at = (goal.at.slice_bounds-result-start c).Joined-k-eq0 in omega (arith, starts at, between at)

pub returns : goal.returns
returns c = let at = (goal.at.returns c).Joined-k-eq0 in field_cut _ _ _ _ (starts at) (between at)
