-- Prepared instructions: a row's kind decides what it is. Each law on the kinds is one computed test over the table of flow.
use mathlib.Core.Path.{◌≡◌, refl, sym, subst, ◌∙◌}
use mathlib.Core.Bool.{Bool, true, false, cond, not, ◌&&◌, false≢true}
use mathlib.Core.List.{List, [], ◌∷◌, map}
use Prim.Native.Nat.{ℕ, zero, suc, ◌+◌, ◌≤◌, min}
use native.Mathlib.Omega.{arith}
use lib.IntN.{ℤ}
use lib.ListN.{get_or}
use borrow.Author.Tests.{leb-true}
use lib.Dec.{leb}
use Rattle.model.specs.Language.{Instruction, fields, constants}
use Rattle.flow.specs.Words.{sorts, may_minus, count, at, built}
use Rattle.flow.specs.Inner.Reader.{field, HeadFits}
use Rattle.flow.specs.Code.{kind, numbers}
use Rattle.flow.specs.Read.{all, in_range, is_named}
use Rattle.flow.proofs.RowLaws.{placed, tried, fields-built, parts-built}
use Rattle.flow.specs.declared.Head.{Head}
use Rattle.flow.proofs.Tests.{and_split}
use Rattle.flow.specs.declared.Instruction.{Instruction as Row}
use Rattle.flow.specs.declared.Kind.{Kind}
use Rattle.flow.specs.declared.Sort.{Sort}
use Rattle.flow.specs.declared.Sort.TheVariants.{Tape, Output, Variable, Target, Constant}
use Rattle.flow.specs.Inner.Rows.{instruction_of, numbers_in}
use Rattle.configuration.specs.Inner.Prepare.{is_count, FitBytes, formed}
use Rattle.constants.specs.Inner.Constants.{offset}
use Rattle.configuration.specs.Inner.Op.{op_of}
use Rattle.configuration.specs.declared.Op.{Op}

-- ---- the form of a row
-- a number that counts, else 0
abbrev only : Kind → (ℕ → ℕ) → ℕ → ℕ
only k n j = cond (is_count (sorts k) j) (n j) 0

-- a form uses as counts only numbers that count
formed-only : (n : ℕ → ℕ) (u v : ℕ) (k : Kind) → formed k (n 0) (n 1) (n 2) (n 3) u v ≡ formed k (only k n 0) (only k n 1) (only k n 2) (only k n 3) u v
formed-only n u v = tried (λ k. formed k (n 0) (n 1) (n 2) (n 3) u v) (λ k. formed k (only k n 0) (only k n 1) (only k n 2) (only k n 3) u v) refl

formed_op : (lo : ℤ) (ns : List ℤ) (k : Kind)
    → formed k (count (at ns 0)) (count (at ns 1)) (count (at ns 2)) (count (at ns 3)) (offset (at ns 0) lo) (offset (at ns 1) lo) ≡ op_of lo (built k ns)
unfolding op_of
formed_op lo ns =
    tried (λ k. formed k (count (at ns 0)) (count (at ns 1)) (count (at ns 2)) (count (at ns 3)) (offset (at ns 0) lo) (offset (at ns 1) lo))
    (λ k. op_of lo (built k ns)) refl

only_byte : (x : Row) → FitBytes x → (j : ℕ) → only x.kind (λ i. min (count (at (numbers_in x) i)) 255) j ≡ only x.kind (λ i. count (at (numbers_in x) i)) j
only_byte x h j = by (is_count (sorts x.kind) j) (h j)
  where
    by : (b : Bool) → (b ≡ true → count (at (numbers_in x) j) ≤ 255) → cond b (min (count (at (numbers_in x) j)) 255) 0 ≡ cond b (count (at (numbers_in x) j)) 0
    by true f = omega (arith, f refl)
    by false f = refl

module _ (lo : ℤ) (x : Row) (bytes : FitBytes x) where
  abbrev m : ℕ → ℕ
  m i = min (count (at (numbers_in x) i)) 255

  abbrev n : ℕ → ℕ
  n i = count (at (numbers_in x) i)

  pub prepared : {a b c d u v : ℕ} {r : Op} → a ≡ m 0 → b ≡ m 1 → c ≡ m 2 → d ≡ m 3 → u ≡ offset (at (numbers_in x) 0) lo → v ≡ offset (at (numbers_in x) 1) lo
      → r ≡ formed x.kind a b c d u v → r ≡ op_of lo (instruction_of x)
  prepared {u = u} {v = v} ea eb ec ed eu ev h =
      let k = x.kind in
      h
      ∙ (λ i. formed k (ea i) (eb i) (ec i) (ed i) u v)
      ∙ formed-only m u v k
      ∙ (λ i. formed k (only_byte x bytes 0 i) (only_byte x bytes 1 i) (only_byte x bytes 2 i) (only_byte x bytes 3 i) u v)
      ∙ sym (formed-only n u v k)
      ∙ (λ i. formed k (n 0) (n 1) (n 2) (n 3) (eu i) (ev i))
      ∙ formed_op lo (numbers_in x) k

-- the constant of a prepared instruction is that of the instruction, prepared; 0 where there is none
pub op_constant : (lo : ℤ) (i : Instruction) → (op_of lo i).constant ≡ get_or (map (λ c. offset c lo) (constants (fields i))) 0 0
unfolding op_of constants
op_constant lo i =
    let one = tried (λ k. (op_of lo (built k (numbers i))).constant) (λ k. get_or (map (λ c. offset c lo) (constants (fields (built k (numbers i))))) 0 0) refl (kind i) in
    subst (λ (j : Instruction). (op_of lo j).constant ≡ get_or (map (λ c. offset c lo) (constants (fields j))) 0 0) (parts-built i) one

-- ---- the rows of a legal flow: every number that counts fits a byte
module _ (h : Head) (f : HeadFits h) (n : ℕ) (few : n ≤ 64) where
  counted : (k hi : ℕ) → hi ≤ 64 → (leb 1 k && leb k hi) ≡ true → k ≤ 255
  counted k hi l e = omega (arith, leb-true k hi (and_split (leb 1 k) (leb k hi) e).1)

  byte : (s : Sort) (z : ℤ) → in_range h (field s z) ≡ true → is_named n (field s z) ≡ true → not (may_minus s) ≡ true → count z ≤ 255
  byte Tape z r s e = counted (count z) h.tapes (omega arith) r
  byte Output z r s e = counted (count z) h.outputs (omega arith) r
  byte Variable z r s e = counted (count z) h.variables (omega arith) r
  byte Target z r s e = counted (count z) n few s
  byte Constant z r s e = absurd (false≢true e)

  bytes-from : (ss : List Sort) (ns : List ℤ) (i : ℕ) → all (in_range h) (placed ss ns i) ≡ true → all (is_named n) (placed ss ns i) ≡ true
      → (j : ℕ) → is_count ss j ≡ true → count (at ns (i + j)) ≤ 255
  unfolding all
  bytes-from [] ns i r s j e = absurd (false≢true e)
  bytes-from (k ∷ ss) ns i r s zero e =
      let (r₀, r₁) = and_split (in_range h (field k (at ns i))) (all (in_range h) (placed ss ns (suc i))) r in
      let (s₀, s₁) = and_split (is_named n (field k (at ns i))) (all (is_named n) (placed ss ns (suc i))) s in
      let here : i + 0 ≡ i = omega arith in
      rw here (byte k (at ns i) r₀ s₀ e)
  bytes-from (k ∷ ss) ns i r s (suc j) e =
      let (r₀, r₁) = and_split (in_range h (field k (at ns i))) (all (in_range h) (placed ss ns (suc i))) r in
      let (s₀, s₁) = and_split (is_named n (field k (at ns i))) (all (is_named n) (placed ss ns (suc i))) s in
      let next : i + suc j ≡ suc i + j = omega arith in
      rw next (bytes-from ss ns (suc i) r₁ s₁ j e)

  pub legal-bytes : (x : Row) → all (in_range h) (fields (instruction_of x)) ≡ true → all (is_named n) (fields (instruction_of x)) ≡ true → FitBytes x
  legal-bytes x r s j e =
      let is = fields-built (numbers_in x) x.kind in
      let from : 0 + j ≡ j = omega arith in
      rw from at (bytes-from (sorts x.kind) (numbers_in x) 0 (rw is at r) (rw is at s) j e)
