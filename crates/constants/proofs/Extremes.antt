-- C1 and C2 by a loop over a flow's rows, from the last to the first. An instruction without a constant counts as one with 0, which is a basic
-- constant anyway; so least and greatest are folds that take one number from each row.
use mathlib.Core.Path.{◌≡◌, refl, sym, ap, ap₂, ◌∙◌}
use mathlib.Core.Bool.{Bool, true, false, cond}
use mathlib.Core.List.{List, [], ◌∷◌, ◌++◌, map}
use Prim.Native.Nat.{ℕ, suc, ◌≤◌, ◌<◌}
use native.Mathlib.Omega.{arith}
use lib.IntN.{ℤ, pos}
use lib.Signed.{lt_z, le_z}
use lib.Dec.{T, ltb}
use lib.ListN.{length, get_or, drop, take, length-take, drop_of_length-le, get_or-eq_default}
use lib.Seq.{drop-cons, get_or-take}
use borrow.Author.Tests.{ltb-true, ltb-false}
use mir.Syntax.{w32}
use mir.Val.{SFits, to_z, of_z}
use mir.Facts.{to_z-of_z}
use Rattle.std.specs.Int.{int_max}
use Rattle.model.specs.Language.{Instruction, fields, constants, all_constants, least, greatest, C1, C2}
use Rattle.model.proofs.Integers.{zarith}
use Rattle.flow.specs.Code.{row as row_by}
use Rattle.flow.specs.declared.Kind.TheVariants.{Read}
use Rattle.flow.specs.declared.Flow.{Flow as Rows}
use Rattle.flow.specs.declared.Instruction.{Instruction as Row}
use Rattle.flow.specs.Inner.Rows.{instruction_of, flow_of}
use Rattle.constants.specs.Inner.Constants.{constant_in}
use Rattle.constants.proofs.RowConstants.{few-constants}

abbrev pub lesser : ℤ → ℤ → ℤ
lesser c r = cond (lt_z c r) c r

abbrev pub greater : ℤ → ℤ → ℤ
greater c r = cond (lt_z r c) c r

-- the greater of two, as the library says it
pub max_greater : (c r : ℤ) → int_max r c ≡ greater c r
max_greater c r = go (lt_z c r) (lt_z r c) refl refl
  where
    go : (a b : Bool) → lt_z c r ≡ a → lt_z r c ≡ b → cond a r c ≡ cond b c r
    go true true h k = absurd (omega zarith)
    go true false h k = refl
    go false true h k = refl
    go false false h k = omega zarith

-- ---- least and greatest, one instruction at a time
least-below : (cs : List ℤ) → T (le_z (least cs) (pos 0))
unfolding least
least-below [] = tt
least-below (c ∷ cs) = go (lt_z c (least cs)) refl (least-below cs)
  where
    go : (b : Bool) → lt_z c (least cs) ≡ b → T (le_z (least cs) (pos 0)) → T (le_z (cond b c (least cs)) (pos 0))
    go true h k = omega zarith
    go false h k = k

greatest-above : (cs : List ℤ) → T (le_z (pos 0) (greatest cs))
unfolding greatest
greatest-above [] = tt
greatest-above (c ∷ cs) = go (lt_z (greatest cs) c) refl (greatest-above cs)
  where
    go : (b : Bool) → lt_z (greatest cs) c ≡ b → T (le_z (pos 0) (greatest cs)) → T (le_z (pos 0) (cond b c (greatest cs)))
    go true h k = omega zarith
    go false h k = k

-- the constant 0 changes neither
least_zero : (cs : List ℤ) → lesser (pos 0) (least cs) ≡ least cs
least_zero cs = let h : lt_z (pos 0) (least cs) ≡ false = omega (zarith, least-below cs) in rw h

greatest-zero : (cs : List ℤ) → greater (pos 0) (greatest cs) ≡ greatest cs
greatest-zero cs = let h : lt_z (greatest cs) (pos 0) ≡ false = omega (zarith, greatest-above cs) in rw h

-- a fold f over constants that takes them by g, and that 0 does not change: one instruction further
further : (f : List ℤ → ℤ) (g : ℤ → ℤ → ℤ) → ((c : ℤ) (cs : List ℤ) → f (c ∷ cs) ≡ g c (f cs)) → ((cs : List ℤ) → g (pos 0) (f cs) ≡ f cs) →
    (i : Instruction) (is : List Instruction) → f (all_constants (i ∷ is)) ≡ g (constant_in i) (f (all_constants is))
unfolding all_constants
further f g h z i is = by (constants (fields i)) (few-constants i)
  where
    by : (cs : List ℤ) → length cs ≤ 1 → f (cs ++ all_constants is) ≡ g (get_or cs 0 (pos 0)) (f (all_constants is))
    by [] l = sym (z (all_constants is))
    by (c ∷ []) l = h c (all_constants is)
    by (c ∷ d ∷ cs) l = absurd (omega arith)

-- such a fold, as a loop takes it up
pub record Fold (f : List ℤ → ℤ) (g : ℤ → ℤ → ℤ) : Type 0 where
  pub step : (i : Instruction) (is : List Instruction) → f (all_constants (i ∷ is)) ≡ g (constant_in i) (f (all_constants is))
  pub zero : (cs : List ℤ) → g (pos 0) (f cs) ≡ f cs

pub least-fold : Fold least lesser
unfolding least
least-fold = record { step = further least lesser (λ c cs. refl) least_zero; zero = least_zero }

pub greatest-fold : Fold greatest greater
unfolding greatest
greatest-fold = record { step = further greatest greater (λ c cs. refl) greatest-zero; zero = greatest-zero }

-- ---- the loop over a flow's rows, from the last to the first
-- the constants of the rows from number i on
pub extremes_rest : Rows → ℕ → List ℤ
extremes_rest flow i = all_constants (map instruction_of (drop i (take flow.count flow.instructions)))

pub rest_none : (flow : Rows) → (pos 0 ≡ least (extremes_rest flow flow.count)) × (pos 0 ≡ greatest (extremes_rest flow flow.count))
unfolding extremes_rest all_constants least greatest
rest_none flow =
    let e = drop_of_length-le (take flow.count flow.instructions) {i = flow.count}
    (omega (arith, length-take flow.count flow.instructions)) in
    rw e (refl, refl)

pub rest_all : (flow : Rows) → (least (extremes_rest flow 0) ≡ C1 (flow_of flow)) × (greatest (extremes_rest flow 0) ≡ C2 (flow_of flow))
unfolding extremes_rest flow_of C1 C2
rest_all flow = (refl, refl)

-- what stands past the rows
abbrev blank : Row
blank = row_by Read []

module _ (flow : Rows) (i : ℕ) (h : i < flow.count) (f : List ℤ → ℤ) (g : ℤ → ℤ → ℤ) (fold : Fold f g) where
  abbrev row : Row
  row = get_or flow.instructions i blank

  abbrev rows : List Row
  rows = take flow.count flow.instructions

  fold-row : f (extremes_rest flow i) ≡ g (constant_in (instruction_of row)) (f (extremes_rest flow (suc i)))
  unfolding extremes_rest constants
  fold-row = go (ltb i (length flow.instructions)) refl
    where
      go : (b : Bool) → ltb i (length flow.instructions) ≡ b → f (extremes_rest flow i) ≡ g (constant_in (instruction_of row)) (f (extremes_rest flow (suc i)))
      go true e =
          let k = ltb-true i (length flow.instructions) e in
          ap (λ (l : List Row). f (all_constants (map instruction_of l)))
          (drop-cons rows i blank (omega (arith, length-take flow.count flow.instructions)))
          ∙ fold.step (instruction_of (get_or rows i blank)) (map instruction_of (drop (suc i) rows))
          ∙ ap (λ (y : Row). g (constant_in (instruction_of y)) (f (extremes_rest flow (suc i)))) (get_or-take flow.count flow.instructions i blank h)
      go false e =
          let k = ltb-false i (length flow.instructions) e in
          let l = length-take flow.count flow.instructions in
          rw (
            drop_of_length-le rows {i = i} (omega arith),
            drop_of_length-le rows {i = suc i} (omega arith),
            get_or-eq_default
                flow.instructions blank {n = i} k,
          )
          (sym (fold.zero (all_constants [])))

  -- one turn of the loop: k is the row's constant, l the fold so far, r what is taken
  pub rest_further : (k r l : ℤ) → SFits w32 k → SFits w32 r → k ≡ constant_in (instruction_of row) → l ≡ f (extremes_rest flow (suc i)) →
      r ≡ g (to_z w32 (of_z w32 k)) l → to_z w32 (of_z w32 r) ≡ f (extremes_rest flow i)
  rest_further k r l fk fr ek el er = to_z-of_z fr ∙ er ∙ ap₂ g (to_z-of_z fk ∙ ek) el ∙ sym fold-row
