-- The constant of an instruction, by the fields of its row: one at most. That of the fields from k on is what the code looks for.
use mathlib.Core.Path.{◌≡◌, refl, sym, ap, ◌∙◌}
use mathlib.Core.Bool.{Bool, true, false, cond}
use mathlib.Core.List.{List, ◌∷◌}
use Prim.Native.Nat.{ℕ, suc, ◌+◌, ◌≤◌, ◌<◌}
use native.Mathlib.Numerals.{add-one}
use lib.IntN.{ℤ, pos}
use lib.ListN.{length, get_or, drop, drop_of_length-le}
use lib.Seq.{drop-cons}
use borrow.Author.Tests.{leb-true}
use lib.Dec.{leb}
use Rattle.model.specs.Language.{Instruction, Field, fields, constants}
use Rattle.flow.specs.Words.{sorts, may_minus, count, at, built}
use Rattle.flow.specs.Inner.Reader.{field}
use Rattle.flow.specs.Code.{kind, numbers}
use Rattle.flow.proofs.RowLaws.{placed, tried, fields-built, parts-built}
use Rattle.flow.specs.declared.Instruction.{Instruction as Row}
use Rattle.flow.specs.declared.Sort.{Sort}
use Rattle.flow.specs.declared.Sort.TheVariants.{Target}
use Rattle.flow.proofs.SortLaws.{sort-field, number-field, constants-field}
use Rattle.flow.specs.Inner.Rows.{instruction_of, numbers_in}
use Rattle.constants.specs.Inner.Constants.{constant_in}

-- the constant of a row: that of the fields from k on
first-constant : (s : Sort) (z : ℤ) (fs : List Field) → get_or (constants (field s z ∷ fs)) 0 (pos 0) ≡ cond (may_minus s) z (get_or (constants fs) 0 (pos 0))
first-constant s z fs = rw (constants-field (field s z) fs, sort-field z s, number-field z s) (by (may_minus s))
  where
    by : (b : Bool) → get_or (cond b (cond b z (pos (count z)) ∷ constants fs) (constants fs)) 0 (pos 0) ≡ cond b z (get_or (constants fs) 0 (pos 0))
    by true = refl
    by false = refl

module _ (ss : List Sort) (ns : List ℤ) where
  abbrev pub constant_from : ℕ → ℤ
  constant_from k = get_or (constants (placed (drop k ss) ns k)) 0 (pos 0)

  one_more : (k : ℕ) → k < length ss → constant_from k ≡ cond (may_minus (get_or ss k Target)) (at ns k) (constant_from (k + 1))
  one_more k l = rw (drop-cons ss k Target l, add-one k) (first-constant (get_or ss k Target) (at ns k) (placed (drop (suc k) ss) ns (suc k)))

  pub constant-here : (k : ℕ) → k < length ss → may_minus (get_or ss k Target) ≡ true → at ns k ≡ constant_from k
  constant-here k l e = rw (one_more k l, e)

  pub constant-more : (k : ℕ) → k < length ss → may_minus (get_or ss k Target) ≡ false → constant_from (k + 1) ≡ constant_from k
  constant-more k l e = rw (one_more k l, e)

  pub constant-none : (k : ℕ) → length ss ≤ k → pos 0 ≡ constant_from k
  unfolding constants
  constant-none k l = rw (drop_of_length-le ss l)

pub constant-row : (x : Row) → constant_from (sorts x.kind) (numbers_in x) 0 ≡ constant_in (instruction_of x)
constant-row x = ap (λ (fs : List Field). get_or (constants fs) 0 (pos 0)) (sym (fields-built (numbers_in x) x.kind))

-- an instruction has one constant at most
pub few-constants : (i : Instruction) → length (constants (fields i)) ≤ 1
unfolding constants
few-constants i =
    let one = tried (λ k. leb (length (constants (fields (built k (numbers i))))) 1) (λ k. true) refl (kind i) in
    leb-true (length (constants (fields i))) 1 (ap (λ (j : Instruction). leb (length (constants (fields j))) 1) (sym (parts-built i)) ∙ one)
