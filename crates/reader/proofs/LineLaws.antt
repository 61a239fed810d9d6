-- The instruction lines, as the code's two loops read them. The inner loop keeps the numbers read so far as a row keeps them, and what the
-- definition says of the fields left follows (`NumbersTo`). The outer loop keeps the rows of the lines read so far, and what it says of the lines
-- left follows (`ReadTo`). A line is read in three steps, before its numbers, its numbers, behind them, whose checks are those of the definition.
use mathlib.Core.Path.{◌≡◌, refl, sym, ap, ap₂, ◌∙◌}
use mathlib.Core.Bool.{Bool, true, false}
use mathlib.Core.List.{List, [], ◌∷◌, ◌++◌, map, append-nil, append_assoc}
use Rattle.std.proofs.lemmas.List.{map-append, length-append}
use Rattle.std.proofs.lemmas.Result.{err_from_is_err_and}
use Rattle.std.specs.Result.{IsErrAnd}
use Rattle.std.specs.Prelude.{Option, None, Some, option_map, ok_or}
use Prim.Native.Nat.{ℕ, suc, ◌+◌, ◌-◌, ◌≤◌, ◌<◌, min}
use native.Mathlib.Omega.{arith}
use native.Mathlib.Numerals.{add-one}
use native.Mathlib.Decide.{dec_le}
use borrow.Author.Tests.{ne_eqb, eqb-true, leb-true, lt-ltb}
use lib.Dec.{eqb, leb}
use lib.IntN.{ℤ, pos, negsuc, nat_abs}
use lib.ListN.{length, get_or, take, drop, set, replicate, length-map, length-drop, drop_of_length-le}
use lib.Seq.{drop-cons}
use Rattle.model.specs.Language.{Instruction, stop, fields}
use Rattle.text.specs.Split.{lines, split}
use Rattle.text.specs.Number.{numeral, natural}
use Rattle.text.specs.Inner.Capped.{cap, capped}
use Rattle.text.proofs.Cap.{number-value, number_bad, test_cut}
use Rattle.text.proofs.Parts.{lines_at, lines-at-end}
use Rattle.text.specs.Inner.Divided.{until}
use Rattle.flow.specs.Limits.{max_instructions}
use Rattle.flow.specs.Words.{kind_of, sorts, may_minus, built}
use Rattle.std.specs.Prelude.{Result, Ok, Err}
use Rattle.flow.specs.Read.{check, given, after, in_range, all, numerals, read_line, read_lines}
use Rattle.flow.specs.Code.{row, row_of}
use Rattle.flow.specs.Inner.Reader.{small, bounded, clamped, HeadFits}
use Rattle.reader.specs.Inner.Lines.{kept_flow}
use Rattle.reader.specs.Inner.Line.{small_at, begin_line, end_line}
use Rattle.flow.specs.declared.Kind.{Kind}
use Rattle.flow.specs.declared.Sort.{Sort}
use Rattle.flow.specs.declared.Sort.TheVariants.{Target}
use Rattle.flow.specs.declared.Head.{Head}
use Rattle.flow.specs.declared.Instruction.{Instruction as Row}
use Rattle.flow.specs.declared.Flow.{Flow as Rows}
use Rattle.reader.specs.declared.line.Start.{Start}
use Rattle.flow.specs.declared.Refusal.{Refusal}
use Rattle.flow.specs.declared.Refusal.TheVariants.{UnknownWord, WrongCount, BadNumber, OutOfRange, OutOfTurn, TooManyLines}
use Rattle.flow.proofs.RowLaws.{kind-built, row_past}
use Rattle.flow.proofs.WriteLineLaws.{numeral-natural, numbers-built, joined}
use Rattle.flow.proofs.ClampLaws.{in_range-row}
use Rattle.flow.proofs.ReadLaws.{check-ok, given-ok}

-- ---- what a row keeps of a number is what it keeps of the number capped
bounded-capped : (z : ℤ) → bounded (capped z) ≡ bounded z
unfolding bounded capped
bounded-capped (pos n) = by (dec_le n 100000)
  where
    by : Dec (n ≤ 100000) → bounded (pos (min n cap)) ≡ bounded (pos n)
    by (yes h) = let whole : min n cap ≡ n = omega arith in rw whole
    by (no h) = rw (lt-ltb 100000 n (omega arith), lt-ltb 100000 (min n cap) (omega arith))
bounded-capped (negsuc n) = by (dec_le n 99999)
  where
    by : Dec (n ≤ 99999) → bounded (negsuc (min n (cap - 1))) ≡ bounded (negsuc n)
    by (yes h) = let whole : min n (cap - 1) ≡ n = omega arith in rw whole
    by (no h) = rw (lt-ltb 99999 n (omega arith), lt-ltb 99999 (min n (cap - 1)) (omega arith))

-- ---- a place that is stored behind those that are
-- so many places: those that are stored, and behind them what fills the rest
abbrev pub filled : {A : Type 0} → ℕ → A → List A → List A
filled n x ys = ys ++ replicate (n - length ys) x

set_behind : {A : Type 0} (ys rest : List A) (x y : A) → set (ys ++ (x ∷ rest)) (length ys) y ≡ ys ++ (y ∷ rest)
set_behind [] rest x y = refl
set_behind (z ∷ ys) rest x y = ap (λ l. z ∷ l) (set_behind ys rest x y)

pub filled_next : {A : Type 0} (n : ℕ) (x y : A) (ys : List A) → length ys < n → set (filled n x ys) (length ys) y ≡ filled n x (ys ++ (y ∷ []))
filled_next n x y ys l =
    let e : n - length ys ≡ suc (n - (length ys + 1)) = omega arith in
    let m : length (ys ++ (y ∷ [])) ≡ length ys + 1 = length-append ys (y ∷ []) in
    rw (e, m) (set_behind ys (replicate (n - (length ys + 1)) x) x y ∙ sym (append_assoc ys (y ∷ []) (replicate (n - (length ys + 1)) x)))

-- ---- the numbers after the word
-- k of them are read: ns holds them as a row keeps them, and those that the fields from k on give follow; cs are the sorts, fs the fields of the line
pub record NumbersTo (cs : List Sort) (fs : List (List ℕ)) (k : ℕ) (ns : List ℤ) : Type 0 where
  pub zs : List ℤ
  pub counted : length zs ≡ k
  pub held : ns ≡ filled 4 (pos 0) (map bounded zs)
  pub rest : option_map (λ ys. zs ++ ys) (numerals (drop k cs) (drop (k + 2) fs)) ≡ numerals cs (drop 2 fs)

pub numbers-start : (cs : List Sort) (fs : List (List ℕ)) → NumbersTo cs fs 0 (replicate 4 (pos 0))
numbers-start cs fs = record { zs = []; counted = refl; held = refl; rest = by (numerals cs (drop 2 fs)) }
  where
    by : (o : Option (List ℤ)) → option_map (λ ys. [] ++ ys) o ≡ o
    by None = refl
    by (Some ys) = refl

joined_more : (xs : List ℤ) (z : ℤ) (rest : Option (List ℤ)) → option_map (λ ys. (xs ++ (z ∷ [])) ++ ys) rest ≡ option_map (λ ys. xs ++ ys) (joined (Some z) rest)
joined_more xs z None = refl
joined_more xs z (Some zs) = ap Some (append_assoc xs (z ∷ []) zs)

module _ {cs : List Sort} {fs : List (List ℕ)} {k : ℕ} {ns : List ℤ} (inv : NumbersTo cs fs k ns) where
  module _ (l : k < length cs) (wide : length fs ≡ length cs + 2) where
    abbrev field : Option ℤ
    field = numeral (may_minus (get_or cs k Target)) (get_or fs (k + 2) [])

    next : numerals (drop k cs) (drop (k + 2) fs) ≡ joined field (numerals (drop (k + 1) cs) (drop (k + 1 + 2) fs))
    unfolding numerals
    next =
        let e : k + 1 + 2 ≡ suc (k + 2) = omega arith in
        let m : k + 2 < length fs = omega arith in
        rw (e, add-one k, drop-cons cs k Target l, drop-cons fs (k + 2) [] m)

    pub numbers_more : length cs ≤ 4 → (v : ℤ) → option_map capped field ≡ Some v → NumbersTo cs fs (k + 1) (set ns k (bounded v))
    numbers_more few v e =
        let (z, written, is) = number-value field v e in
        let same : bounded v ≡ bounded z = ap bounded is ∙ bounded-capped z in
        record {
          zs = inv.zs ++ (z ∷ []);
          counted = length-append inv.zs (z ∷ []) ∙ ap (λ (n : ℕ). n + 1) inv.counted;
          held = placed z same;
          rest = joined_more inv.zs z (numerals (drop (k + 1) cs) (drop (k + 1 + 2) fs)) ∙ (rw (next, written) at inv.rest);
        }
      where
        size : length (map bounded inv.zs) ≡ k
        size = length-map inv.zs bounded ∙ inv.counted

        placed : (z : ℤ) → bounded v ≡ bounded z → set ns k (bounded v) ≡ filled 4 (pos 0) (map bounded (inv.zs ++ (z ∷ [])))
        placed z same =
            ap₂ (λ (xs : List ℤ) (x : ℤ). set xs k x) inv.held same
            ∙ ap (λ (i : ℕ). set (filled 4 (pos 0) (map bounded inv.zs)) i (bounded z)) (sym size)
            ∙ filled_next 4 (pos 0) (bounded z) (map bounded inv.zs) (omega (arith, size, l, few))
            ∙ ap (filled 4 (pos 0)) (sym (map-append bounded inv.zs (z ∷ [])))

    pub numbers_bad : option_map capped field ≡ None → numerals cs (drop 2 fs) ≡ None
    numbers_bad e = sym inv.rest ∙ rw (next, number_bad field e)

  -- all of them are read, and the row is that of the numbers read
  pub numbers-end : length cs ≤ k → numerals cs (drop 2 fs) ≡ Some inv.zs
  unfolding numerals
  numbers-end l = sym inv.rest ∙ rw (drop_of_length-le cs l, append-nil)

  pub numbers_row : (kind : Kind) → row kind ns ≡ row kind (map bounded inv.zs)
  numbers_row kind = ap (row kind) inv.held ∙ row_past kind (map bounded inv.zs) (4 - length (map bounded inv.zs))

-- ---- a number without a minus, as a byte keeps it
small-capped : (z : ℤ) → small (nat_abs (capped z)) ≡ small (nat_abs z)
unfolding capped
small-capped (pos n) = omega arith
small-capped (negsuc n) = omega arith

pub small_read : (f : List ℕ) → option_map (λ z. small (nat_abs z)) (option_map capped (numeral false f)) ≡ option_map small (natural f)
small_read f = rw (numeral-natural f) (by (natural f))
  where
    by : (o : Option ℕ) → option_map (λ z. small (nat_abs z)) (option_map capped (option_map pos o)) ≡ option_map small o
    by None = refl
    by (Some n) = ap Some (small-capped (pos n))

-- ---- what is asked for by `?`, with its refusal
pub left_by : {A : Type 0} (r : Result A Refusal) {e : Refusal} → IsErrAnd r (λ x. x ≡ e) → r ≡ Err e
left_by r q = let p = err_from_is_err_and r q in p.1 ∙ ap Err p.2

pub asked-none : {A : Type 0} (o : Option A) {r e : Refusal} → Err e ≡ ok_or o r → (o ≡ None) × (r ≡ e)
asked-none None q = (refl, cc)
asked-none (Some x) q = cc

pub asked-some : {A : Type 0} (o : Option A) (r : Refusal) {x : A} → Ok x ≡ ok_or o r → o ≡ Some x
asked-some None r q = cc
asked-some (Some x) r q = cc

pub given_asked : {A B : Type 0} (o : Option A) (r : Refusal) (f : A → Result B Refusal) → given o r f ≡ after (ok_or o r) f
given_asked None r f = refl
given_asked (Some x) r f = refl

-- ---- a line that shows no fault before its numbers is not one too many, and has the fields that its word asks for
pub begun : (count : ℕ) (fs : List (List ℕ)) (s : Start) → begin_line count fs ≡ Ok s → (count < 64) × (length fs ≡ length (sorts s.kind) + 2)
unfolding begin_line
begun count fs s e =
    let (few, e₁) = check-ok (leb (count + 1) 64) TooManyLines _ e in
    let (k, known, e₂) = given-ok (kind_of (get_or fs 1 [])) (UnknownWord (count + 2)) _ e₁ in
    let (wide, e₃) = check-ok (eqb (length fs) (length (sorts k) + 2)) (WrongCount (count + 2)) _ e₂ in
    let (n, numbered, e₄) = given-ok (small_at fs 0) (BadNumber (count + 2)) _ e₃ in
    let same : k ≡ s.kind = cc in
    (omega (arith, leb-true (count + 1) 64 few), rw same at (eqb-true (length fs) (length (sorts k) + 2) wide))

-- ---- what the line of instruction count + 1 is read as, in the code's three steps: before its numbers, its numbers, behind them
abbrev pub line_stepped : Head → ℕ → List (List ℕ) → Result Row Refusal
line_stepped h count fs =
    after (begin_line count fs) (λ s.
    given (numerals (sorts s.kind) (drop 2 fs)) (BadNumber (count + 2)) (λ zs.
    end_line h count s.number (row s.kind (map bounded zs))))

pub stepped_start : (h : Head) (count : ℕ) (fs : List (List ℕ)) (r : Refusal) → begin_line count fs ≡ Err r → line_stepped h count fs ≡ Err r
stepped_start h count fs r e = rw e

module _ (h : Head) (count : ℕ) (fs : List (List ℕ)) (s : Start) (begins : begin_line count fs ≡ Ok s) where
  pub stepped_bad : numerals (sorts s.kind) (drop 2 fs) ≡ None → line_stepped h count fs ≡ Err (BadNumber (count + 2))
  stepped_bad e = rw (begins, e)

  pub stepped-end : {k : ℕ} {ns : List ℤ} → NumbersTo (sorts s.kind) fs k ns → length (sorts s.kind) ≤ k → line_stepped h count fs ≡ end_line h count s.number (row s.kind ns)
  stepped-end inv l = rw (begins, numbers-end inv l, numbers_row inv s.kind)

-- the row that is kept of it
abbrev rowed : Result Instruction Refusal → Result Row Refusal
rowed (Ok x) = Ok (clamped x)
rowed (Err r) = Err r

-- the turn is told from the byte that the code compares
small_turn : (n i : ℕ) → i ≤ 64 → eqb (small n) i ≡ eqb n i
small_turn n i l = test_cut (λ k. eqb k i) false 255 n (λ k m. ne_eqb k i (omega arith))

-- a check before the numbers is one of the definition's
given_rowed : {A : Type 0} (o : Option A) (r : Refusal) (f : A → Result Instruction Refusal) (g : A → Result Start Refusal) (e : Start → Result Row Refusal)
    → ((x : A) → rowed (f x) ≡ after (g x) e) → rowed (given o r f) ≡ after (given o r g) e
given_rowed None r f g e step = refl
given_rowed (Some x) r f g e step = step x

small_rowed : (o : Option ℕ) (r : Refusal) (f : ℕ → Result Instruction Refusal) (g : ℕ → Result Start Refusal) (e : Start → Result Row Refusal)
    → ((n : ℕ) → rowed (f n) ≡ after (g (small n)) e) → rowed (given o r f) ≡ after (given (option_map small o) r g) e
small_rowed None r f g e step = refl
small_rowed (Some n) r f g e step = step n

check_rowed : (t : Bool) (r : Refusal) (f : Result Instruction Refusal) (g : Result Start Refusal) (e : Start → Result Row Refusal)
    → (t ≡ true → rowed f ≡ after g e) → rowed (check t r f) ≡ after (check t r g) e
check_rowed true r f g e step = step refl
check_rowed false r f g e step = refl

module _ (h : Head) (fits : HeadFits h) (count : ℕ) (fs : List (List ℕ)) where
  line : count + 1 + 1 ≡ count + 2
  line = omega arith

  -- the row that is kept of the instruction is that of its line
  line_kept : (k : Kind) (zs : List ℤ) → length fs ≡ length (sorts k) + 2 → numerals (sorts k) (drop 2 fs) ≡ Some zs → clamped (built k zs) ≡ row k (map bounded zs)
  line_kept k zs wide e =
      let after_two : length (drop 2 fs) ≡ length (sorts k) = omega (arith, length-drop 2 fs) in
      ap₂ (λ (j : Kind) (l : List ℤ). row j (map bounded l)) (kind-built zs k) (numbers-built k (drop 2 fs) zs after_two e)

  -- the numbers, and the checks behind them
  line_end_lem : count < 64 → (k : Kind) → length fs ≡ length (sorts k) + 2 → (n : ℕ) (o : Option (List ℤ)) → numerals (sorts k) (drop 2 fs) ≡ o →
      rowed (given o (BadNumber (count + 2)) (λ zs.
      check (eqb n (count + 1)) (OutOfTurn (count + 2)) (check (all (in_range h) (fields (built k zs))) (OutOfRange (count + 2)) (Ok (built k zs)))))
      ≡ given o (BadNumber (count + 2)) (λ zs. end_line h count (small n) (row k (map bounded zs)))
  unfolding end_line
  line_end_lem few k wide n None e = refl
  line_end_lem few k wide n (Some zs) e =
      rw (small_turn n (count + 1) (omega arith), in_range-row h fits k zs, ← line_kept k zs wide e)
      (by (eqb n (count + 1)) (all (in_range h) (fields (built k zs))))
    where
      x : Instruction
      x = built k zs

      by : (s t : Bool) → rowed (check s (OutOfTurn (count + 2)) (check t (OutOfRange (count + 2)) (Ok x)))
          ≡ check s (OutOfTurn (count + 2)) (check t (OutOfRange (count + 2)) (Ok (clamped x)))
      by true true = refl
      by true false = refl
      by false t = refl

  pub line_steps : rowed (check (leb (count + 1) max_instructions) TooManyLines (read_line h (count + 1) fs)) ≡ line_stepped h count fs
  unfolding read_line begin_line
  line_steps =
      rw line
      (check_rowed (leb (count + 1) 64) TooManyLines _ _ _ (λ few.
      given_rowed (kind_of (get_or fs 1 [])) (UnknownWord (count + 2)) _ _ _ (λ k.
      check_rowed (eqb (length fs) (length (sorts k) + 2)) (WrongCount (count + 2)) _ _ _ (λ wide.
      small_rowed (natural (get_or fs 0 [])) (BadNumber (count + 2)) _ _ _ (λ n.
      line_end_lem (omega (arith, leb-true (count + 1) 64 few)) k (eqb-true (length fs) (length (sorts k) + 2) wide) n (numerals (sorts k) (drop 2 fs)) refl)))))

-- ---- the lines before a place of the text are read: their rows are kept, and what the definition says of the lines from there on follows
pub record ReadTo (h : Head) (text : List ℕ) (at count : ℕ) (rows : List Row) : Type 0 where
  pub xs : List Instruction
  pub counted : length xs ≡ count
  pub held : rows ≡ filled 64 (row_of stop) (map clamped xs)
  pub rest : after (read_lines h (count + 1) (lines (drop at text))) (λ ys. Ok (xs ++ ys)) ≡ read_lines h 1 (lines text)

-- the answer
abbrev pub kept_lines : Head → List ℕ → Result Rows Refusal
kept_lines h text = after (read_lines h 1 (lines text)) (λ xs. Ok (kept_flow h xs))

pub lines-start : (h : Head) (text : List ℕ) → ReadTo h text 0 0 (replicate 64 (row_of stop))
lines-start h text = record { xs = []; counted = refl; held = refl; rest = by (read_lines h 1 (lines text)) }
  where
    by : (r : Result (List Instruction) Refusal) → after r (λ ys. Ok ([] ++ ys)) ≡ r
    by (Ok ys) = refl
    by (Err r) = refl

-- a line more, by what it is read as
next_read : (few : Bool) (l : Result Instruction Refusal) (rest : Result (List Instruction) Refusal) (xs : List Instruction) (x : Instruction)
    → check few TooManyLines l ≡ Ok x
    → after (check few TooManyLines (after l (λ x. after rest (λ ys. Ok (x ∷ ys))))) (λ ys. Ok (xs ++ ys)) ≡ after rest (λ ys. Ok ((xs ++ (x ∷ [])) ++ ys))
next_read false l rest xs x e = cc
next_read true (Ok x) (Ok ys) xs y e = let same : x ≡ y = cc in rw same (ap Ok (sym (append_assoc xs (y ∷ []) ys)))
next_read true (Ok x) (Err r) xs y e = refl
next_read true (Err q) rest xs x e = cc

next-fault : (few : Bool) (l : Result Instruction Refusal) (rest : Result (List Instruction) Refusal) (xs : List Instruction) (r : Refusal)
    → check few TooManyLines l ≡ Err r
    → after (check few TooManyLines (after l (λ x. after rest (λ ys. Ok (x ∷ ys))))) (λ ys. Ok (xs ++ ys)) ≡ Err r
next-fault false l rest xs r e = cc
next-fault true (Ok x) rest xs r e = cc
next-fault true (Err q) rest xs r e = cc

rowed_ok : (l : Result Instruction Refusal) (row : Row) → rowed l ≡ Ok row → (x : Instruction) × (l ≡ Ok x) × (row ≡ clamped x)
rowed_ok (Ok x) row e = (x, refl, cc)
rowed_ok (Err r) row e = cc

rowed-fault : (l : Result Instruction Refusal) (r : Refusal) → rowed l ≡ Err r → l ≡ Err r
rowed-fault (Ok x) r e = cc
rowed-fault (Err q) r e = cc

module _ {h : Head} {text : List ℕ} {at count : ℕ} {rows : List Row} (inv : ReadTo h text at count rows) where
  pub lines_end : length text ≤ at → kept_lines h text ≡ Ok (record { tapes = h.tapes; outputs = h.outputs; variables = h.variables; count = count; instructions = rows })
  unfolding read_lines kept_flow
  lines_end l =
      let all : read_lines h 1 (lines text) ≡ Ok inv.xs = sym inv.rest ∙ rw (lines-at-end text at l, append-nil) in
      rw (all, inv.counted, inv.held) (ap (λ (n : ℕ). Ok (record { tapes = h.tapes; outputs = h.outputs; variables = h.variables; count = count; instructions = map clamped inv.xs ++ replicate (64 - n) (row_of stop) })) (sym inv.counted ∙ sym (length-map inv.xs clamped)))

  -- fs are the fields of the line
  module _ (fits : HeadFits h) (l : at < length text) (end : ℕ) (found : end ≡ at + until 10 (drop at text)) (fs : List (List ℕ))
      (here : fs ≡ split (take (end - at) (drop at text))) where
    abbrev behind : Result (List Instruction) Refusal
    behind = read_lines h (suc (count + 1)) (lines (drop (end + 1) text))

    next_lines : read_lines h (count + 1) (lines (drop at text))
        ≡ check (leb (count + 1) max_instructions) TooManyLines (after (read_line h (count + 1) fs) (λ x. after behind (λ ys. Ok (x ∷ ys))))
    unfolding read_lines
    next_lines = rw (here, lines_at text at end found l)

    pub lines-fault : (r : Refusal) → line_stepped h count fs ≡ Err r → kept_lines h text ≡ Err r
    lines-fault r e =
        let f = rowed-fault (check (leb (count + 1) max_instructions) TooManyLines (read_line h (count + 1) fs)) r (line_steps h fits count fs ∙ e) in
        let all : read_lines h 1 (lines text) ≡ Err r = sym inv.rest ∙ rw next_lines (next-fault _ (read_line h (count + 1) fs) behind inv.xs r f) in
        rw all

    pub lines_more : (row : Row) → count < 64 → line_stepped h count fs ≡ Ok row → ReadTo h text (end + 1) (count + 1) (set rows count row)
    lines_more row few e =
        let (x, read, is) = rowed_ok (check (leb (count + 1) max_instructions) TooManyLines (read_line h (count + 1) fs)) row (line_steps h fits count fs ∙ e) in
        let size : length (map clamped inv.xs) ≡ count = length-map inv.xs clamped ∙ inv.counted in
        record {
          xs = inv.xs ++ (x ∷ []);
          counted = length-append inv.xs (x ∷ []) ∙ ap (λ (n : ℕ). n + 1) inv.counted;
          held =
              ap₂ (λ (ys : List Row) (y : Row). set ys count y) inv.held is
              ∙ ap (λ (i : ℕ). set (filled 64 (row_of stop) (map clamped inv.xs)) i (clamped x)) (sym size)
              ∙ filled_next 64 (row_of stop) (clamped x) (map clamped inv.xs) (omega (arith, size, few))
              ∙ ap (filled 64 (row_of stop)) (sym (map-append clamped inv.xs (x ∷ [])));
          rest = rw (add-one (count + 1)) (sym (next_read _ (read_line h (count + 1) fs) behind inv.xs x read) ∙ (rw next_lines at inv.rest));
        }
