-- The targets as the code looks at them: in the rows that it keeps, one row after the other.
use mathlib.Core.Path.{◌≡◌, refl}
use mathlib.Core.Bool.{true, false}
use mathlib.Core.List.{List, [], ◌∷◌, map}
use Rattle.std.specs.Prelude.{None, Some}
use Prim.Native.Nat.{ℕ, suc, ◌+◌, ◌≤◌, ◌<◌}
use native.Mathlib.Omega.{arith}
use native.Mathlib.Numerals.{add-one}
use lib.ListN.{length, get_or, drop, drop_of_length-le}
use lib.Seq.{drop-cons}
use Rattle.model.specs.Language.{Instruction, fields}
use Rattle.flow.specs.Read.{is_named, all, lost_target}
use Rattle.flow.specs.Inner.Reader.{clamped, HeadFits}
use Rattle.flow.specs.Inner.Rows.{instruction_of}
use Rattle.flow.specs.declared.Head.{Head}
use Rattle.flow.specs.declared.Instruction.{Instruction as Row}
use Rattle.flow.proofs.ClampLaws.{is_named_clamp}

-- rows as they are kept have the lost targets of the instructions
pub lost_clamp : (h : Head) → HeadFits h → (n line : ℕ) → n < 255 → (xs : List Instruction) → lost_target n line (map instruction_of (map clamped xs)) ≡ lost_target n line xs
unfolding lost_target
lost_clamp h f n line l [] = refl
lost_clamp h f n line l (x ∷ xs) = rw (is_named_clamp h f n l x, lost_clamp h f n (suc line) l xs)

-- the line of row i, looked at from there on
module _ (n : ℕ) (rows : List Row) where
  module _ (i : ℕ) (d : Row) (l : i < length rows) where
    pub target_lost : all (is_named n) (fields (instruction_of (get_or rows i d))) ≡ false → Some (i + 2) ≡ lost_target n (i + 2) (map instruction_of (drop i rows))
    unfolding lost_target
    target_lost e = rw (drop-cons rows i d l, e)

    pub target_named : all (is_named n) (fields (instruction_of (get_or rows i d))) ≡ true
        → lost_target n (i + 1 + 2) (map instruction_of (drop (i + 1) rows)) ≡ lost_target n (i + 2) (map instruction_of (drop i rows))
    unfolding lost_target
    target_named e = let f : i + 1 + 2 ≡ suc (i + 2) = omega arith in rw (drop-cons rows i d l, e, f, add-one i)

  pub targets-end : (i : ℕ) → length rows ≤ i → None ≡ lost_target n (i + 2) (map instruction_of (drop i rows))
  unfolding lost_target
  targets-end i l = rw (drop_of_length-le rows {i = i} l)
