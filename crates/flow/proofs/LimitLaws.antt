-- Which constants a flow may have (document 02, T-09). Those of a legal flow lie within their limits, and so do C1 and C2. And of all whole
-- numbers those within the limits are read, as the constant of a flow of one instruction, and every other is refused by 5 at its line.
use mathlib.Core.Path.{◌≡◌, refl, ◌∙◌, subst}
use mathlib.Core.Bool.{Bool, true, false, cond, ◌&&◌}
use mathlib.Core.List.{List, [], ◌∷◌, ◌++◌, map}
use Rattle.std.specs.Prelude.{Option, None, Some}
use Prim.Native.Nat.{ℕ, suc, ◌≤◌}
use Prim.Native.String.{String}
use native.Mathlib.Omega.{arith}
use lib.IntN.{ℤ}
use lib.Signed.{lt_z, le_z}
use lib.ListN.{length, get_or}
use lib.Dec.{T, leb}
use Rattle.model.specs.Language.{Instruction, const, over, under, stop, Flow, Field, fields, constants, all_constants, least, greatest, C1, C2}
use Rattle.model.proofs.Integers.{true_in}
use Rattle.text.specs.Bytes.{bytes}
use Rattle.text.specs.Split as Split
use Rattle.text.specs.Number as Number
use Rattle.text.specs.Write.{decimal, signed}
use Rattle.text.proofs.Joined.{fields-parted}
use Rattle.model.specs.Inner.Lists.{All}
use Rattle.flow.specs.Limits.{max_bytes, least_constant, greatest_constant}
use Rattle.flow.specs.Read as Read
use Rattle.std.specs.Prelude.{Result, Ok}
use Rattle.flow.specs.Read.{check, after, unless, all, in_range, is_named, read_lines, lost_target, read_rest, read_flow}
use Rattle.flow.specs.declared.Refusal.{Refusal}
use Rattle.flow.specs.Words as Words
use Rattle.flow.specs.Words.{may_minus, sort, number}
use Rattle.flow.specs.Code.{numbers}
use Rattle.flow.specs.Write.{word, lines_from, write_flow}
use Rattle.flow.specs.Legal.{Legal, head}
use Rattle.flow.specs.declared.Head.{Head}
use Rattle.flow.specs.declared.Refusal.TheVariants.{OutOfRange, NoInstruction, NoSuchTarget}
use Rattle.flow.proofs.FaultyLines.{refused_by}
use Rattle.flow.proofs.SortLaws.{constants-field, minus_bounds}
use Rattle.flow.proofs.Tests.{and_split}
use Rattle.flow.proofs.LegalLaws.{read-legal}
use Rattle.flow.proofs.WriteLineLaws.{line_past, line_fields-read}
use Rattle.flow.proofs.WriteLaws.{written_by_lines}

-- a whole number within the limits of constants
abbrev pub Limited : ℤ → Type 0
Limited c = T (le_z least_constant c) × T (le_z c greatest_constant)

-- ---- the constants of a legal flow
limited-fields : (h : Head) (fs : List Field) → all (in_range h) fs ≡ true → All Limited (constants fs)
unfolding all constants
limited-fields h [] e = tt
limited-fields h (f ∷ fs) e =
    let (p, q) = and_split (in_range h f) (all (in_range h) fs) e in
    rw (constants-field f fs) (by (may_minus (sort f)) refl p (limited-fields h fs q))
  where
    by : (b : Bool) → may_minus (sort f) ≡ b → in_range h f ≡ true → All Limited (constants fs) → All Limited (cond b (number f ∷ constants fs) (constants fs))
    by true m e rest =
        let r = rw (minus_bounds h (sort f) m) at e in
        let (a, b) = and_split (le_z least_constant (number f)) (le_z (number f) greatest_constant) r in
        ((true_in (le_z least_constant (number f)) a, true_in (le_z (number f) greatest_constant) b), rest)
    by false m e rest = rest

limited-append : (l m : List ℤ) → All Limited l → All Limited m → All Limited (l ++ m)
limited-append [] m h k = k
limited-append (c ∷ l) m (h, hs) k = (h, limited-append l m hs k)

limited-all : (h : Head) (is : List Instruction) → ((j : ℕ) → all (in_range h) (fields (get_or is j stop)) ≡ true) → All Limited (all_constants is)
unfolding all_constants
limited-all h [] e = tt
limited-all h (i ∷ is) e =
    limited-append (constants (fields i)) (all_constants is) (limited-fields h (fields i) (e 0)) (limited-all h is (λ j. e (suc j)))

pub legal-constants : (flow : Flow) → Legal flow → All Limited (all_constants flow.instructions)
legal-constants flow l = limited-all (head flow) flow.instructions (λ j. l.ranges (suc j))

pub read-constants : (text : List ℕ) (flow : Flow) → read_flow text ≡ Ok flow → All Limited (all_constants flow.instructions)
read-constants text flow e = legal-constants flow (read-legal text flow e)

-- ---- C1 and C2
choice : (b : Bool) (c d : ℤ) → Limited c → Limited d → Limited (cond b c d)
choice true c d h k = h
choice false c d h k = k

limited-least : (cs : List ℤ) → All Limited cs → Limited (least cs)
unfolding least
limited-least [] h = (tt, tt)
limited-least (c ∷ cs) (h, hs) = choice (lt_z c (least cs)) c (least cs) h (limited-least cs hs)

limited-greatest : (cs : List ℤ) → All Limited cs → Limited (greatest cs)
unfolding greatest
limited-greatest [] h = (tt, tt)
limited-greatest (c ∷ cs) (h, hs) = choice (lt_z (greatest cs) c) c (greatest cs) h (limited-greatest cs hs)

pub legal-limited : (flow : Flow) → Legal flow → Limited (C1 flow) × Limited (C2 flow)
unfolding C1 C2
legal-limited flow l =
    let cs = legal-constants flow l in
    (limited-least (all_constants flow.instructions) cs, limited-greatest (all_constants flow.instructions) cs)

-- ---- every whole number as a constant
-- one tape, one variable and one instruction
abbrev pub single : Instruction → Flow
single x = record { tapes = 1; outputs = 0; variables = 1; instructions = x ∷ [] }

-- each instruction with a constant
abbrev pub with_constant : ℤ → List Instruction
with_constant c = const c 1 1 ∷ over c 1 1 1 ∷ under 1 c 1 1 ∷ []

-- whether the text of the flow with an instruction is read, by a test; a text past the limit of bytes is none of these
abbrev pub ReadIf : Bool → Instruction → Type 0
ReadIf b x = length (write_flow (single x)) ≤ max_bytes → read_flow (write_flow (single x)) ≡ check b (OutOfRange 2) (Ok (single x))

single_read : (x : Instruction) → all (is_named 1) (fields x) ≡ true → ReadIf (all (in_range (head (single x))) (fields x)) x
unfolding read_rest read_lines lines_from lost_target
single_read x named short =
    written_by_lines (single x) (record { tapes = (omega arith, omega arith); outputs = omega arith; variables = (omega arith, omega arith) }) short
    ∙ rw (fields-parted (decimal 1) (word x ∷ map signed (numbers x)) (line_past 1 x), line_fields-read (head (single x)) 1 x)
    (by (all (in_range (head (single x))) (fields x)))
  where
    judge : List Instruction → Result Flow Refusal
    judge xs = check (leb 1 (length xs)) NoInstruction (unless (lost_target (length xs) 2 xs) NoSuchTarget (Ok (record { tapes = 1; outputs = 0; variables = 1; instructions = xs })))

    by : (b : Bool) → after (after (check b (OutOfRange 2) (Ok x)) (λ x. Ok (x ∷ []))) judge ≡ check b (OutOfRange 2) (Ok (single x))
    by true = rw named
    by false = refl

and_true : (b : Bool) → (b && true) ≡ b
and_true true = refl
and_true false = refl

-- a constant is read exactly if it lies within the limits; else the answer is 5 at line 2
pub every_constant : (c : ℤ) → All (ReadIf (le_z least_constant c && le_z c greatest_constant)) (with_constant c)
unfolding all
every_constant c =
    let limited = le_z least_constant c && le_z c greatest_constant in
    let last : (x : Instruction) → all (is_named 1) (fields x) ≡ true → all (in_range (head (single x))) (fields x) ≡ limited && true → ReadIf limited x =
    λ x named e. subst (λ (b : Bool). ReadIf b x) (e ∙ and_true limited) (single_read x named) in
    (last (const c 1 1) refl refl, (last (over c 1 1 1) refl refl, (last (under 1 c 1 1) refl refl, tt)))

-- ---- constants on both sides of the limits and far past them, computed
-- constants, written, and what a line with one of them is refused by
abbrev borders : List (String × Option (ℕ × ℕ))
borders =
    ("-10000", Some (5, 2)) ∷ ("-9999", None) ∷ ("-1001", None) ∷ ("-1000", None)
    ∷ ("1000", None) ∷ ("1001", None) ∷ ("9999", None) ∷ ("10000", Some (5, 2))
    -- numbers that 16, 32 and 64 bits take for 9999, and ten to the power of 40
    ∷ ("75535", Some (5, 2)) ∷ ("4294977295", Some (5, 2)) ∷ ("18446744073709561615", Some (5, 2))
    ∷ ("10000000000000000000000000000000000000000", Some (5, 2)) ∷ ("-10000000000000000000000000000000000000000", Some (5, 2))
    ∷ ("09999", Some (15, 2)) ∷ ("-09999", Some (15, 2)) ∷ ("+9999", Some (15, 2))
    ∷ []

-- a constant in each instruction that has one
abbrev in_each : String → List (Option (ℕ × ℕ))
in_each c = map (λ (l : List ℕ × List ℕ). refused_by (read_flow (bytes "flow,1,0,1\n" ++ l.0 ++ bytes c ++ l.1)))
    ((bytes "1,set,", bytes ",1,1\n") ∷ (bytes "1,over,", bytes ",1,1,1\n") ∷ (bytes "1,under,1,", bytes ",1,1\n") ∷ [])

pub borders_judged : map (λ (t : String × Option (ℕ × ℕ)). in_each t.0) borders
    ≡ map (λ (t : String × Option (ℕ × ℕ)). t.1 ∷ t.1 ∷ t.1 ∷ []) borders
unfolding Read.read_flow Read.read_bytes Read.read_rest Read.read_head Read.head_of Read.read_lines Read.read_line Read.numerals Read.all Words.first_named Split.lines Split.split Split.parts Split.lead Split.same_word Number.natural Number.numeral Number.negative Number.digits_after Read.lost_target
borders_judged = refl
