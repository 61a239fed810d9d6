-- `outside_row::patterns` meets its contract: each constant is the list, computed.
use mathlib.Core.Path.{◌≡◌, refl, sym, ap, ◌∙◌}
use native.Mathlib.Omega.{arith}
use Rattle.model.specs.Pattern.{among, different, mark, pattern}
use Rattle.outside.specs.Inner.Rows.{rows, keep, led, bind, flat}
use Rattle.outside.specs.Outside.{ranks_of, same, is_own, eight, outside}
use Rattle.outside_row.proofs.patterns.Goals as goal

pub returns-in-1 : goal.returns-in-1
unfolding outside is_own same eight keep rows led bind flat ranks_of pattern mark different among
returns-in-1 c = let computed : _ ≡ flat (outside 1) = refl in computed ∙ ap (λ v. flat (outside v)) (sym c.in-1.is)

pub returns-in-2 : goal.returns-in-2
unfolding outside is_own same eight keep rows led bind flat ranks_of pattern mark different among
returns-in-2 c = let computed : _ ≡ flat (outside 2) = refl in computed ∙ ap (λ v. flat (outside v)) (sym c.in-2.is)

pub returns-in-3 : goal.returns-in-3
unfolding outside is_own same eight keep rows led bind flat ranks_of pattern mark different among
returns-in-3 c = let computed : _ ≡ flat (outside 3) = refl in computed ∙ ap (λ v. flat (outside v)) (sym c.in-3.is)

pub returns-in_default : goal.returns-in_default
unfolding outside is_own same eight keep rows led bind flat ranks_of pattern mark different among
returns-in_default c =
    let last : 4 ≡ c.args.v = omega (arith, c.requires) in
    let computed : _ ≡ flat (outside 4) = refl in
    computed ∙ ap (λ v. flat (outside v)) last
