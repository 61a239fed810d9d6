-- The table of instructions (document 01): the word of a line, what each field after the word names, and the instruction that they make.
-- The kind of a word, the count of fields and the minus signs are read off it; ranges and targets go by the model's `fields`, which name what
-- the table names (`fields-built`, proofs/RowLaws.antt).
use Rattle.std.specs.Prelude.{Bool, true, false, cond, List, [], ◌∷◌, ℕ, ℤ, pos, negsuc, get_or}
use Rattle.std.specs.Prelude.{Option, None, Some}
use Prim.Native.String.{String}
use Rattle.model.specs.Language.{Instruction, read, put, copy, const, less, over, under, nop, stop, Field, tape, output, variable, target, constant}
use Rattle.text.specs.Split.{same_word}
use Rattle.text.specs.Bytes.{bytes}
use Rattle.flow.specs.declared.Kind.{Kind}
use Rattle.flow.specs.declared.Kind.TheVariants.{Read, Put, Copy, Set, Less, Over, Under, Nop, Stop}
use Rattle.flow.specs.declared.Sort.{Sort}
use Rattle.flow.specs.declared.Sort.TheVariants.{Tape, Output, Variable, Target, Constant}

-- a line of the table: the word, the sorts of the fields after it, and the instruction of the numbers in them: n 0, n 1, .. as counts,
-- z 0, z 1, .. as constants
pub record Form : Type 0 where
  pub word : List ℕ
  pub sorts : List Sort
  pub make : (n : ℕ → ℕ) (z : ℕ → ℤ) → Instruction

abbrev pub form : String → List Sort → ((n : ℕ → ℕ) (z : ℕ → ℤ) → Instruction) → Form
form word sorts make = record { word = bytes word; sorts = sorts; make = make }

-- the table, and its order
abbrev pub table : Kind → Form
table Read = form "read" (Tape ∷ Variable ∷ Target ∷ Target ∷ []) (λ n z. read (n 0) (n 1) (n 2) (n 3))
table Put = form "put" (Variable ∷ Output ∷ Target ∷ []) (λ n z. put (n 0) (n 1) (n 2))
table Copy = form "copy" (Variable ∷ Variable ∷ Target ∷ []) (λ n z. copy (n 0) (n 1) (n 2))
table Set = form "set" (Constant ∷ Variable ∷ Target ∷ []) (λ n z. const (z 0) (n 1) (n 2))
table Less = form "less" (Variable ∷ Variable ∷ Target ∷ Target ∷ []) (λ n z. less (n 0) (n 1) (n 2) (n 3))
table Over = form "over" (Constant ∷ Variable ∷ Target ∷ Target ∷ []) (λ n z. over (z 0) (n 1) (n 2) (n 3))
table Under = form "under" (Variable ∷ Constant ∷ Target ∷ Target ∷ []) (λ n z. under (n 0) (z 1) (n 2) (n 3))
table Nop = form "nop" (Target ∷ []) (λ n z. nop (n 0))
table Stop = form "stop" [] (λ n z. stop)

abbrev pub kinds : List Kind
kinds = Read ∷ Put ∷ Copy ∷ Set ∷ Less ∷ Over ∷ Under ∷ Nop ∷ Stop ∷ []

-- the first of some kinds whose word it is, and the kind that a word names
unfoldable pub first_named : List Kind → List ℕ → Option Kind
first_named [] w = None
first_named (k ∷ ks) w = cond (same_word w (table k).word) (Some k) (first_named ks w)

abbrev pub kind_of : List ℕ → Option Kind
kind_of w = first_named kinds w

-- the sorts of the fields after the word; only a constant may have a minus
abbrev pub sorts : Kind → List Sort
sorts k = (table k).sorts

abbrev pub may_minus : Sort → Bool
may_minus Tape = false
may_minus Output = false
may_minus Variable = false
may_minus Target = false
may_minus Constant = true

-- a number that counts (only a constant is read with a minus), and the number in place j
abbrev pub count : ℤ → ℕ
count (pos n) = n
count (negsuc n) = 0

abbrev pub at : List ℤ → ℕ → ℤ
at zs j = get_or zs j (pos 0)

-- the instruction of a kind, from the numbers after the word
abbrev pub built : Kind → List ℤ → Instruction
built k zs = (table k).make (λ j. count (at zs j)) (at zs)

-- the sort of a field, and the number in it
abbrev pub sort : Field → Sort
sort (tape n) = Tape
sort (output n) = Output
sort (variable n) = Variable
sort (target n) = Target
sort (constant c) = Constant

abbrev pub number : Field → ℤ
number (tape n) = pos n
number (output n) = pos n
number (variable n) = pos n
number (target n) = pos n
number (constant c) = c
