-- The table of instructions, and rows. What is tried of each kind in the table's order holds of every kind: so each law on the table is
-- one computed test. A row holds an instruction and gives it back.
use mathlib.Core.Logic.{inl, inr, ◌⊎◌}
use mathlib.Core.Path.{◌≡◌, refl, sym, ◌∙◌}
use mathlib.Core.Bool.{Bool, true, ◌&&◌}
use Rattle.std.specs.Prelude.{Some}
use mathlib.Core.List.{List, [], ◌∷◌, ◌++◌, map}
use Prim.Native.Nat.{ℕ, zero, suc, ◌≤◌}
use borrow.Author.Tests.{leb-true}
use lib.Dec.{leb}
use lib.IntN.{ℤ, pos}
use lib.ListN.{length, get_or, replicate}
use Rattle.model.specs.Language.{Instruction, read, put, copy, const, less, over, under, nop, stop, Field, fields}
use Rattle.model.specs.Inner.Lists.{All}
use Rattle.text.specs.Split.{same_word}
use Rattle.flow.specs.Words.{table, kinds, first_named, kind_of, sorts, at, built}
use Rattle.flow.specs.Inner.Reader.{field}
use Rattle.flow.specs.Read.{all}
use Rattle.flow.specs.Code.{kind, numbers, row, row_of}
use Rattle.flow.specs.declared.Instruction.{Instruction as Row}
use Rattle.flow.specs.declared.Kind.{Kind}
use Rattle.flow.specs.declared.Kind.TheVariants.{Read, Put, Copy, Set, Less, Over, Under, Nop, Stop}
use Rattle.flow.specs.declared.Sort.{Sort}
use Rattle.flow.specs.Inner.Rows.{instruction_of, numbers_in}

-- the fields of some sorts that hold the numbers from place j on
abbrev pub placed : List Sort → List ℤ → ℕ → List Field
placed [] zs j = []
placed (s ∷ ss) zs j = field s (at zs j) ∷ placed ss zs (suc j)

-- ---- every kind stands in the table
every : (P : Kind → Type 0) → All P kinds → (k : Kind) → P k
every P (h, t) Read = h
every P (_, (h, t)) Put = h
every P (_, (_, (h, t))) Copy = h
every P (_, (_, (_, (h, t)))) Set = h
every P (_, (_, (_, (_, (h, t))))) Less = h
every P (_, (_, (_, (_, (_, (h, t)))))) Over = h
every P (_, (_, (_, (_, (_, (_, (h, t))))))) Under = h
every P (_, (_, (_, (_, (_, (_, (_, (h, t)))))))) Nop = h
every P (_, (_, (_, (_, (_, (_, (_, (_, (h, t))))))))) Stop = h

-- a computed test: what is the same all along the table is the same of every kind
pub tried : {A : Type 0} (f g : Kind → A) → map f kinds ≡ map g kinds → (k : Kind) → f k ≡ g k
tried {A} f g e = every (λ k. f k ≡ g k) (along kinds e)
  where
    along : (ks : List Kind) → map f ks ≡ map g ks → All (λ k. f k ≡ g k) ks
    along [] e = tt
    along (k ∷ ks) e = let first : f k ≡ g k = cc in let rest : map f ks ≡ map g ks = cc in (first, along ks rest)

-- ---- the tests
pub kind-built : (zs : List ℤ) (k : Kind) → kind (built k zs) ≡ k
kind-built zs = tried (λ k. kind (built k zs)) (λ k. k) refl

pub fields-built : (zs : List ℤ) (k : Kind) → fields (built k zs) ≡ placed (sorts k) zs 0
fields-built zs = tried (λ k. fields (built k zs)) (λ k. placed (sorts k) zs 0) refl

-- the fields of some sorts that hold some numbers, pair by pair
abbrev pub paired : List Sort → List ℤ → List Field
paired [] zs = []
paired (s ∷ ss) [] = []
paired (s ∷ ss) (z ∷ zs) = field s z ∷ paired ss zs

pub fields-paired : (x : Row) → paired (sorts x.kind) (numbers_in x) ≡ fields (instruction_of x)
fields-paired x = tried (λ k. paired (sorts k) (numbers_in x)) (λ k. fields (built k (numbers_in x))) refl x.kind

-- a kind asks for at most four numbers
pub width-bound : (k : Kind) → length (sorts k) ≤ 4
width-bound k = leb-true (length (sorts k)) 4 (tried (λ k. leb (length (sorts k)) 4) (λ k. true) refl k)

pub word_known : (k : Kind) → kind_of (table k).word ≡ Some k
unfolding first_named same_word
word_known = tried (λ k. kind_of (table k).word) Some refl

-- ---- a row gives its instruction back
pub row_back : (x : Instruction) → instruction_of (row_of x) ≡ x
row_back (read a v p m) = refl
row_back (put v y n) = refl
row_back (copy u v n) = refl
row_back (const c v n) = refl
row_back (less u v p m) = refl
row_back (over c v p m) = refl
row_back (under v c p m) = refl
row_back (nop n) = refl
row_back stop = refl

-- what is given past a list's end, written out
pub get_d_past : {A : Type 0} (xs : List A) (d : A) (n j : ℕ) → get_or (xs ++ replicate n d) j d ≡ get_or xs j d
get_d_past [] d zero j = refl
get_d_past [] d (suc n) zero = refl
get_d_past [] d (suc n) (suc j) = get_d_past [] d n j
get_d_past (x ∷ xs) d n zero = refl
get_d_past (x ∷ xs) d n (suc j) = get_d_past xs d n j

-- a kind uses no number past the fourth
pub built-row : (zs : List ℤ) (k : Kind) → built k (numbers_in (row k zs)) ≡ built k zs
built-row zs k = tried (λ j. built j (numbers_in (row k zs))) (λ j. built j zs) refl k

-- an instruction is its kind and the numbers in its fields
pub parts-built : (x : Instruction) → built (kind x) (numbers x) ≡ x
parts-built x = sym (built-row (numbers x) (kind x)) ∙ row_back x

-- zeros behind the numbers change no row
pub row_past : (k : Kind) (zs : List ℤ) (n : ℕ) → row k (zs ++ replicate n (pos 0)) ≡ row k zs
row_past k zs n =
    let e = get_d_past zs (pos 0) n in
    λ i. record { kind = k; first = e 0 i; second = e 1 i; third = e 2 i; fourth = e 3 i }

-- ---- the fields of a row, tried pair by pair
module _ (test : Field → Bool) where
  pub pair-tried : (s : Sort) (z : ℤ) (ss : List Sort) (zs : List ℤ) {ss' : List Sort} {zs' : List ℤ} → ss' ≡ s ∷ ss → zs' ≡ z ∷ zs →
      (test (field s z) && all test (paired ss zs)) ≡ all test (paired ss' zs')
  unfolding all
  pair-tried s z ss zs e f = rw (e, f)

  pub pairs-end : (ss : List Sort) (zs : List ℤ) → (ss ≡ []) ⊎ (zs ≡ []) → true ≡ all test (paired ss zs)
  unfolding all
  pairs-end ss zs (inl e) = rw e
  pairs-end [] zs (inr e) = refl
  pairs-end (s ∷ ss) zs (inr e) = rw e
