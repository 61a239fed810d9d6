-- What reading gives: the checks that an answer has passed, the targets, and the two cases of a whole text.
use mathlib.Core.Path.{◌≡◌, refl, ap, ◌∙◌, subst}
use mathlib.Core.Bool.{Bool, true, false, cond}
use mathlib.Core.List.{List, [], ◌∷◌}
use Rattle.std.specs.Prelude.{Option, None, Some}
use Prim.Native.Nat.{ℕ, zero, suc, ◌+◌, ◌≤◌}
use native.Mathlib.Omega.{arith}
use borrow.Author.Tests.{leb-true, eqb-true}
use lib.Dec.{leb, eqb}
use lib.IntN.{ℤ}
use lib.ListN.{length, get_or, drop}
use Rattle.model.specs.Language.{Instruction, stop, fields}
use Rattle.text.specs.Split.{split}
use Rattle.text.specs.Number.{natural}
use Rattle.flow.specs.Limits.{max_instructions}
use Rattle.flow.specs.Words.{kind_of, sorts, built}
use Rattle.std.specs.Prelude.{Result, Ok, Err}
use Rattle.flow.specs.Read.{check, given, after, in_range, is_named, all, numerals, read_line, read_lines, lost_target, read_bytes, only_stop, read_flow}
use Rattle.flow.specs.declared.Kind.{Kind}
use Rattle.flow.specs.declared.Refusal.{Refusal}
use Rattle.flow.specs.declared.Refusal.TheVariants.{UnknownWord, WrongCount, BadNumber, OutOfTurn, OutOfRange, TooManyLines}
use Rattle.flow.specs.declared.Head.{Head}

-- ---- an answer that is no refusal has passed its checks
pub fault_not_ok : {A : Type 0} {r : Refusal} {x : A} → Err r ≡ Ok x → ⊥
fault_not_ok e = let z : ◌≡◌ {A = ℕ} 0 1 = cc in omega arith

pub check-ok : {A : Type 0} (b : Bool) (r : Refusal) (rest : Result A Refusal) {x : A} → check b r rest ≡ Ok x → (b ≡ true) × (rest ≡ Ok x)
check-ok true r rest e = (refl, e)
check-ok false r rest e = absurd (fault_not_ok e)

pub given-ok : {A B : Type 0} (o : Option A) (r : Refusal) (rest : A → Result B Refusal) {y : B} → given o r rest ≡ Ok y → (x : A) × (o ≡ Some x) × (rest x ≡ Ok y)
given-ok None r rest e = absurd (fault_not_ok e)
given-ok (Some x) r rest e = (x, refl, e)

pub after-ok : {A B : Type 0} (a : Result A Refusal) (rest : A → Result B Refusal) {y : B} → after a rest ≡ Ok y → (x : A) × (a ≡ Ok x) × (rest x ≡ Ok y)
after-ok (Ok x) rest e = (x, refl, e)
after-ok (Err r) rest e = absurd (fault_not_ok e)

-- ---- lines that are read keep to their ranges, and there are at most 64
-- a line that is read, by its checks: k is its kind, ns are the numbers after the word
pub record LineRead (h : Head) (i : ℕ) (fs : List (List ℕ)) (x : Instruction) : Type 0 where
  pub k : Kind
  pub ns : List ℤ
  pub known : kind_of (get_or fs 1 []) ≡ Some k
  pub counted : length fs ≡ length (sorts k) + 2
  pub number : natural (get_or fs 0 []) ≡ Some i
  pub numbers : numerals (sorts k) (drop 2 fs) ≡ Some ns
  pub fits : all (in_range h) (fields (built k ns)) ≡ true
  pub whole : built k ns ≡ x

pub line_read : (h : Head) (i : ℕ) (fs : List (List ℕ)) (x : Instruction) → read_line h i fs ≡ Ok x → LineRead h i fs x
unfolding read_line
line_read h i fs x e =
    let (k, known, e₁) = given-ok (kind_of (get_or fs 1 [])) (UnknownWord (i + 1)) by_kind e in
    let (counted, e₂) = check-ok (eqb (length fs) (length (sorts k) + 2)) (WrongCount (i + 1)) (by_number k) e₁ in
    let (n, numbered, e₃) = given-ok (natural (get_or fs 0 [])) (BadNumber (i + 1)) (by_numbers k) e₂ in
    let (ns, written, e₄) = given-ok (numerals (sorts k) (drop 2 fs)) (BadNumber (i + 1)) (by_turn k n) e₃ in
    let (turn, e₅) = check-ok (eqb n i) (OutOfTurn (i + 1)) (by_range k ns) e₄ in
    let (fit, e₆) = check-ok (all (in_range h) (fields (built k ns))) (OutOfRange (i + 1)) (Ok (built k ns)) e₅ in
    record {
      k = k;
      ns = ns;
      known = known;
      counted = eqb-true (length fs) (length (sorts k) + 2) counted;
      number = numbered ∙ ap Some (eqb-true n i turn);
      numbers = written;
      fits = fit;
      whole = cc;
    }
  where
    by_range : Kind → List ℤ → Result Instruction Refusal
    by_range k ns = check (all (in_range h) (fields (built k ns))) (OutOfRange (i + 1)) (Ok (built k ns))

    by_turn : Kind → ℕ → List ℤ → Result Instruction Refusal
    by_turn k n ns = check (eqb n i) (OutOfTurn (i + 1)) (by_range k ns)

    by_numbers : Kind → ℕ → Result Instruction Refusal
    by_numbers k n = given (numerals (sorts k) (drop 2 fs)) (BadNumber (i + 1)) (by_turn k n)

    by_number : Kind → Result Instruction Refusal
    by_number k = given (natural (get_or fs 0 [])) (BadNumber (i + 1)) (by_numbers k)

    by_kind : Kind → Result Instruction Refusal
    by_kind k = check (eqb (length fs) (length (sorts k) + 2)) (WrongCount (i + 1)) (by_number k)

line_fits : (h : Head) (i : ℕ) (fs : List (List ℕ)) (x : Instruction) → read_line h i fs ≡ Ok x → all (in_range h) (fields x) ≡ true
line_fits h i fs x e =
    let o = line_read h i fs x e in
    subst (λ (y : Instruction). all (in_range h) (fields y) ≡ true) o.whole o.fits

-- every instruction of a list keeps to the ranges of line 1
abbrev pub AllFit : Head → List Instruction → Type 0
AllFit h xs = (j : ℕ) → all (in_range h) (fields (get_or xs j stop)) ≡ true

fit-more : (h : Head) (x : Instruction) (xs : List Instruction) → all (in_range h) (fields x) ≡ true → AllFit h xs → AllFit h (x ∷ xs)
fit-more h x xs f fs zero = f
fit-more h x xs f fs (suc j) = fs j

-- a line that is read, and what comes after it
pub record One (h : Head) (i : ℕ) (l : List ℕ) (ls : List (List ℕ)) (xs : List Instruction) : Type 0 where
  pub x : Instruction
  pub ys : List Instruction
  pub few : i ≤ max_instructions
  pub line : read_line h i (split l) ≡ Ok x
  pub rest : read_lines h (suc i) ls ≡ Ok ys
  pub whole : x ∷ ys ≡ xs

pub one-read : (h : Head) (i : ℕ) (l : List ℕ) (ls : List (List ℕ)) (xs : List Instruction) → read_lines h i (l ∷ ls) ≡ Ok xs → One h i l ls xs
unfolding read_lines
one-read h i l ls xs e =
    let (few, e₁) = check-ok (leb i max_instructions) TooManyLines (after (read_line h i (split l)) first) e in
    let (x, line, e₂) = after-ok (read_line h i (split l)) first e₁ in
    let (ys, rest, e₃) = after-ok (read_lines h (suc i) ls) (λ ys. Ok (x ∷ ys)) e₂ in
    record { x = x; ys = ys; few = leb-true i max_instructions few; line = line; rest = rest; whole = cc }
  where
    first : Instruction → Result (List Instruction) Refusal
    first x = after (read_lines h (suc i) ls) (λ ys. Ok (x ∷ ys))

pub lines_fit : (h : Head) (i : ℕ) (ls : List (List ℕ)) (xs : List Instruction) → read_lines h i ls ≡ Ok xs → AllFit h xs
unfolding read_lines all
lines_fit h i [] xs e = let None : [] ≡ xs = cc in subst (AllFit h) None (λ j. refl)
lines_fit h i (l ∷ ls) xs e =
    let o = one-read h i l ls xs e in
    subst (AllFit h) o.whole (fit-more h o.x o.ys (line_fits h i (split l) o.x o.line) (lines_fit h (suc i) ls o.ys o.rest))

few-lines : (h : Head) (i : ℕ) (ls : List (List ℕ)) (xs : List Instruction) → read_lines h i ls ≡ Ok xs → i ≤ 65 → i + length xs ≤ 65
unfolding read_lines
few-lines h i [] xs e b = let None : [] ≡ xs = cc in omega (arith, ap length None)
few-lines h i (l ∷ ls) xs e b =
    let o = one-read h i l ls xs e in
    omega (arith, ap length o.whole, few-lines h (suc i) ls o.ys o.rest (omega arith))

pub at-most_64 : (h : Head) (ls : List (List ℕ)) (xs : List Instruction) → read_lines h 1 ls ≡ Ok xs → length xs ≤ 64
at-most_64 h ls xs e = omega (arith, few-lines h 1 ls xs e (omega arith))

-- ---- targets
pub none_lost : (n line : ℕ) (xs : List Instruction) → lost_target n line xs ≡ None → (j : ℕ) → all (is_named n) (fields (get_or xs j stop)) ≡ true
unfolding lost_target all
none_lost n line [] e j = refl
none_lost n line (x ∷ xs) e j = go (all (is_named n) (fields x)) refl e j (none_lost n (suc line) xs)
  where
    go : (b : Bool) → all (is_named n) (fields x) ≡ b → cond b (lost_target n (suc line) xs) (Some line) ≡ None → (j : ℕ)
        → (lost_target n (suc line) xs ≡ None → (k : ℕ) → all (is_named n) (fields (get_or xs k stop)) ≡ true)
        → all (is_named n) (fields (get_or (x ∷ xs) j stop)) ≡ true
    go true h f zero rest = h
    go true h f (suc j) rest = rest f j
    go false h f j rest = let z : ◌≡◌ {A = ℕ} 0 1 = cc in absurd (omega arith)

pub lost_none : (n line : ℕ) (xs : List Instruction) → ((j : ℕ) → all (is_named n) (fields (get_or xs j stop)) ≡ true) → lost_target n line xs ≡ None
unfolding lost_target
lost_none n line [] h = refl
lost_none n line (x ∷ xs) h = rw (h 0, lost_none n (suc line) xs (λ j. h (suc j)))

-- ---- the whole text: one of no bytes, and any other
pub no_bytes : (text : List ℕ) → length text ≡ 0 → read_flow text ≡ Ok only_stop
unfolding read_flow
no_bytes [] e = refl
no_bytes (b ∷ bs) e = absurd (omega arith)

pub some_bytes : (text : List ℕ) → 1 ≤ length text → read_flow text ≡ read_bytes text
unfolding read_flow
some_bytes [] l = absurd (omega arith)
some_bytes (b ∷ bs) l = refl
