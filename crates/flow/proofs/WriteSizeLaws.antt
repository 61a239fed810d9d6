-- The text of a legal flow keeps to the limit of bytes: no field has more than 5 bytes and no line more than 6 fields.
use mathlib.Core.Path.{◌≡◌, refl, ap}
use mathlib.Core.Bool.{true}
use mathlib.Core.List.{List, [], ◌∷◌, map}
use Prim.Native.Nat.{ℕ, suc, ◌+◌, ◌*◌, ◌≤◌}
use native.Mathlib.Omega.{arith}
use borrow.Author.Tests.{leb-true}
use lib.Dec.{leb}
use lib.IntN.{ℤ, pos, negsuc}
use lib.ListN.{length, get_or, length-append, length-map}
use Rattle.model.specs.Language.{Instruction, stop, Flow, Field, fields}
use Rattle.model.proofs.Integers.{zarith}
use Rattle.text.specs.Write.{decimal, signed, parted, ended}
use Rattle.text.proofs.Joined.{EachPart}
use Rattle.text.proofs.Decimal.{decimal-short}
use Rattle.flow.specs.Limits.{max_bytes}
use Rattle.flow.specs.Read.{in_range, is_named, all}
use Rattle.flow.specs.Legal.{Legal, head}
use Rattle.flow.specs.Inner.Reader.{HeadFits}
use Rattle.flow.specs.Words.{table, sorts, number}
use Rattle.flow.specs.Code.{kind, numbers}
use Rattle.flow.specs.Write.{word, head_fields, line_fields, lines_from, write_flow}
use Rattle.flow.specs.declared.Head.{Head}
use Rattle.flow.proofs.RowLaws.{tried, width-bound}
use Rattle.flow.proofs.Tests.{and_split}
use Rattle.flow.proofs.ClampLaws.{FourDigits, field-digits}
use Rattle.flow.proofs.WriteLineLaws.{fields_placed, placed_length}
use Rattle.flow.proofs.ReadLaws.{AllFit}

pub head-fit : (flow : Flow) → Legal flow → HeadFits (head flow)
head-fit flow l = record { tapes = l.tapes; outputs = l.outputs; variables = l.variables }

small : (n : ℕ) → n ≤ 9999 → length (decimal n) ≤ 4
small n l = decimal-short 3 n (omega arith)

word-short : (x : Instruction) → (length (word x) ≤ 5) × (length (fields x) ≤ 4)
word-short x =
    let short = leb-true (length (word x)) 5 (tried (λ k. leb (length (table k).word) 5) (λ k. true) refl (kind x)) in
    (short, omega (arith, ap length (fields_placed x), placed_length (sorts (kind x)) (numbers x) 0, width-bound (kind x)))

-- at most 5 bytes
abbrev Short : List ℕ → Type 0
Short f = length f ≤ 5

parted-short : (fs : List (List ℕ)) → EachPart Short fs → length (parted fs) ≤ length fs * 6
unfolding parted
parted-short [] p = omega arith
parted-short (f ∷ []) (p, q) = omega arith
parted-short (f ∷ g ∷ fs) (p, q) = omega (arith, length-append f (44 ∷ parted (g ∷ fs)), parted-short (g ∷ fs) q)

-- h has the counts of line 1, and there are n instructions
module _ (h : Head) (f : HeadFits h) (n : ℕ) (few : n ≤ 64) where
  number_short : (x : Field) → in_range h x ≡ true → is_named n x ≡ true → Short (signed (number x))
  number_short x r s = by (number x) (field-digits h f n (omega arith) x r s)
    where
      by : (z : ℤ) → FourDigits z → Short (signed z)
      by (pos k) (low, high) = omega (arith, small k (omega (zarith, high)))
      by (negsuc k) (low, high) = omega (arith, small (suc k) (omega (zarith, low)))

  numbers-short : (fs : List Field) → all (in_range h) fs ≡ true → all (is_named n) fs ≡ true → EachPart Short (map signed (map number fs))
  unfolding all
  numbers-short [] r s = tt
  numbers-short (x ∷ fs) r s =
      let (r₁, r₂) = and_split (in_range h x) (all (in_range h) fs) r in
      let (s₁, s₂) = and_split (is_named n x) (all (is_named n) fs) s in
      (number_short x r₁ s₁, numbers-short fs r₂ s₂)

  line_short : (i : ℕ) (x : Instruction) → i ≤ 64 → all (in_range h) (fields x) ≡ true → all (is_named n) (fields x) ≡ true → length (parted (line_fields i x)) ≤ 36
  line_short i x l r s =
      omega (
        arith,
        parted-short (line_fields i x) (omega (arith, small i (omega arith)), ((word-short x).0, numbers-short (fields x) r s)),
        length-map (numbers x) signed,
        length-map (fields x) number,
        word-short x,
      )

  lines-short : (i : ℕ) (xs : List Instruction) → i + length xs ≤ 65 → AllFit h xs → ((j : ℕ) → all (is_named n) (fields (get_or xs j stop)) ≡ true)
      → length (ended (lines_from i xs)) ≤ length xs * 37
  unfolding ended lines_from
  lines-short i [] l r s = omega arith
  lines-short i (x ∷ xs) l r s =
      omega (
        arith,
        length-append (parted (line_fields i x)) (10 ∷ ended (lines_from (suc i) xs)),
        line_short i x (omega arith) (r 0) (s 0),
        lines-short (suc i) xs (omega arith) (λ j. r (suc j)) (λ j. s (suc j)),
      )

pub written-short : (flow : Flow) → Legal flow → length (write_flow flow) ≤ max_bytes
unfolding write_flow ended
written-short flow l =
    let xs : List Instruction = flow.instructions in
    let count : (n : ℕ) → n ≤ 4 → Short (decimal n) = λ n h. omega (arith, small n (omega arith)) in
    omega (
      arith,
      length-append (parted (head_fields (head flow))) (10 ∷ ended (lines_from 1 xs)),
      parted-short (head_fields (head flow)) (omega arith, (count flow.tapes (omega arith), (count flow.outputs (omega arith), (count flow.variables (omega arith), tt)))),
      lines-short (head flow) (head-fit flow l) (length xs) l.size.1 1 xs (omega arith) (λ j. l.ranges (suc j)) (λ j. l.targets (suc j)),
    )
