-- `flags` meets its contract: each flag is told as a number.
use mathlib.Core.Path.{◌≡◌, refl, sym, ◌∙◌}
use mathlib.Core.Bool.{Bool, false}
use mathlib.Core.List.{List, [], ◌∷◌, map}
use Prim.Native.Nat.{ℕ, zero, suc, ◌<◌}
use lib.ListN.{length, get_or, length-map}
use borrow.Author.Rules.{rules}
use native.Mathlib.Omega.{arith}
use Rattle.std.proofs.lemmas.List.{same_lists}
use Rattle.tilsando.specs.Exports.{flag}
use Rattle.tilsando.proofs.told.flags.Goals as goal

told_at : (xs : List Bool) (k d : ℕ) → k < length xs → get_or (map flag xs) k d ≡ flag (get_or xs k false)
told_at [] k d h = absurd (omega arith)
told_at (x ∷ xs) zero d h = refl
told_at (x ∷ xs) (suc k) d h = told_at xs k d (omega arith)

pub returns : goal.returns
returns c =
    let long : length c.args.two ≡ 64 = search rules in
    let size = c.map.ensures.items.long in
    same_lists c.map.result (map flag c.args.two) (size ∙ sym (length-map c.args.two flag ∙ long))
    (λ k d h. let (p, q, called) = c.map.ensures.items.at k false d (omega (arith, size)) in
    called.met ∙ sym (told_at c.args.two k d (omega (arith, size, long))))
