-- The sorts of fields. What is tried of each sort holds of every sort, so each law on them is one computed test.
use mathlib.Core.Path.{◌≡◌, refl, sym, ap, ap₂, ◌∙◌}
use mathlib.Core.Bool.{Bool, true, false, cond, false≢true}
use mathlib.Core.List.{List, [], ◌∷◌, map}
use Rattle.std.specs.Prelude.{Option, None, Some}
use lib.IntN.{ℤ, pos}
use Rattle.model.specs.Language.{Field, tape, output, variable, target, constant, constants}
use Rattle.model.specs.Inner.Lists.{All}
use Rattle.flow.specs.Limits.{least_constant, greatest_constant}
use Rattle.flow.specs.Words.{may_minus, count, sort, number}
use Rattle.flow.specs.Inner.Reader.{field}
use Rattle.flow.specs.Read.{bounds, between}
use Rattle.flow.specs.declared.Head.{Head}
use Rattle.flow.specs.declared.Sort.{Sort}
use Rattle.flow.specs.declared.Sort.TheVariants.{Target, Tape, Output, Variable, Constant}

abbrev pub all_sorts : List Sort
all_sorts = Target ∷ Tape ∷ Output ∷ Variable ∷ Constant ∷ []

pub every_sort : (P : Sort → Type 0) → All P all_sorts → (s : Sort) → P s
every_sort P (h, t) Target = h
every_sort P (_, (h, t)) Tape = h
every_sort P (_, (_, (h, t))) Output = h
every_sort P (_, (_, (_, (h, t)))) Variable = h
every_sort P (_, (_, (_, (_, (h, t))))) Constant = h

-- a computed test
pub tried_sort : {A : Type 0} (f g : Sort → A) → map f all_sorts ≡ map g all_sorts → (s : Sort) → f s ≡ g s
tried_sort {A} f g e = every_sort (λ s. f s ≡ g s) (along all_sorts e)
  where
    along : (ss : List Sort) → map f ss ≡ map g ss → All (λ s. f s ≡ g s) ss
    along [] e = tt
    along (s ∷ ss) e = let first : f s ≡ g s = cc in let rest : map f ss ≡ map g ss = cc in (first, along ss rest)

pub sort-field : (z : ℤ) (s : Sort) → sort (field s z) ≡ s
sort-field z = tried_sort (λ s. sort (field s z)) (λ s. s) refl

-- a number that may have a minus is held as it is, any other as a count
pub number-field : (z : ℤ) (s : Sort) → number (field s z) ≡ cond (may_minus s) z (pos (count z))
number-field z = tried_sort (λ s. number (field s z)) (λ s. cond (may_minus s) z (pos (count z))) refl

-- a number lies in its range, by a table of ranges, if it lies in the range found for its sort
pub lies_so : (range : Sort → Option (ℤ × ℤ)) (s : Sort) (z : ℤ) {r : Option (ℤ × ℤ)} {n : ℤ} → r ≡ range s → n ≡ number (field s z)
    → between r n ≡ between (range (sort (field s z))) (number (field s z))
lies_so range s z e f = ap₂ between (e ∙ ap range (sym (sort-field z s))) f

-- the constants are the numbers that may have a minus
pub constants-field : (f : Field) (fs : List Field) → constants (f ∷ fs) ≡ cond (may_minus (sort f)) (number f ∷ constants fs) (constants fs)
unfolding constants
constants-field (tape n) fs = refl
constants-field (output n) fs = refl
constants-field (variable n) fs = refl
constants-field (target n) fs = refl
constants-field (constant c) fs = refl

-- and have the range of constants
pub minus_bounds : (h : Head) (s : Sort) → may_minus s ≡ true → bounds h s ≡ Some (least_constant, greatest_constant)
minus_bounds h s e =
    by (may_minus s) e
    (tried_sort (λ s. cond (may_minus s) (bounds h s) None) (λ s. cond (may_minus s) (Some (least_constant, greatest_constant)) None) refl s)
  where
    by : (b : Bool) → b ≡ true → cond b (bounds h s) None ≡ cond b (Some (least_constant, greatest_constant)) None
        → bounds h s ≡ Some (least_constant, greatest_constant)
    by true e h = h
    by false e h = absurd (false≢true e)
