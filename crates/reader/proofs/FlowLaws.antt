-- The answer by rows is the definition's: rows past their ranges were turned back, so the rows that are left hold the instructions whole.
use mathlib.Core.Path.{◌≡◌, refl, sym, ap, ap₂, ◌∙◌}
use mathlib.Core.Bool.{Bool, true, false, cond}
use mathlib.Core.List.{List, [], ◌∷◌, ◌++◌, map}
use Rattle.std.specs.Prelude.{Option, None, Some}
use Prim.Native.Nat.{ℕ, zero, suc, ◌+◌, ◌-◌, ◌≤◌, ◌<◌}
use native.Mathlib.Omega.{arith}
use borrow.Author.Tests.{le-leb, lt-leb, eq-eqb, ne_eqb}
use lib.Dec.{eqb, leb}
use Rattle.std.proofs.Math.Seq.{take-append_seam, take-length}
use lib.ListN.{length, get_or, take, drop, replicate, length-map, length-drop}
use Rattle.model.specs.Language.{Instruction, stop, Flow, fields}
use Rattle.text.specs.Split.{lines, split}
use Rattle.text.proofs.Parts.{lines_at}
use Rattle.text.specs.Inner.Divided.{until}
use Rattle.flow.specs.Limits.{max_bytes}
use Rattle.std.specs.Prelude.{Result, Ok, Err}
use Rattle.flow.specs.Read.{check, after, unless, read_head, is_named, all, read_lines, lost_target, read_rest, read_bytes}
use Rattle.flow.specs.Code.{row_of, rows_of, reading_of}
use Rattle.flow.specs.Inner.Reader.{clamped, HeadFits}
use Rattle.reader.specs.Inner.Lines.{kept_flow}
use Rattle.flow.specs.declared.Refusal.{Refusal}
use Rattle.flow.specs.declared.Refusal.TheVariants.{TooLong, NoLastEnd, NoInstruction, NoSuchTarget}
use Rattle.flow.specs.declared.Head.{Head}
use Rattle.flow.specs.declared.Instruction.{Instruction as Row}
use Rattle.flow.specs.declared.Flow.{Flow as Rows}
use Rattle.flow.proofs.ClampLaws.{clamp_kept}
use Rattle.flow.proofs.ReadLaws.{AllFit, lines_fit, at-most_64, none_lost}
use Rattle.reader.proofs.TargetLaws.{lost_clamp}
use Rattle.flow.specs.Inner.Rows.{instruction_of}

-- instructions that pass all tests are kept whole
all-kept : (h : Head) → HeadFits h → (n : ℕ) → n < 255 → (xs : List Instruction) → AllFit h xs
    → ((j : ℕ) → all (is_named n) (fields (get_or xs j stop)) ≡ true) → map clamped xs ≡ map row_of xs
all-kept h f n l [] r s = refl
all-kept h f n l (x ∷ xs) r s = ap₂ ◌∷◌ (clamp_kept h f n l x (r 0) (s 0)) (all-kept h f n l xs (λ j. r (suc j)) (λ j. s (suc j)))

-- ---- what is answered by the flow that is kept
-- the rows that count
abbrev pub rows_in : Rows → List Row
rows_in flow = take flow.count flow.instructions

-- the answer once all lines are read
abbrev pub judged : Rows → Result Rows Refusal
judged flow =
    check (leb 1 flow.count) NoInstruction
    (after (unless {A = Unit {0}} (lost_target (length (rows_in flow)) 2 (map instruction_of (rows_in flow))) NoSuchTarget (Ok tt)) (λ _. Ok flow))

abbrev flow : Head → List Instruction → Flow
flow h xs = record { tapes = h.tapes; outputs = h.outputs; variables = h.variables; instructions = xs }

module _ (h : Head) (fits : HeadFits h) (xs : List Instruction) (few : length xs ≤ 64) (fit : AllFit h xs) where
  rows_kept : rows_in (kept_flow h xs) ≡ map clamped xs
  unfolding kept_flow
  rows_kept =
      ap (λ (n : ℕ). take n (map clamped xs ++ replicate (64 - length xs) (row_of stop))) (sym (length-map xs clamped))
      ∙ take-append_seam (map clamped xs) (replicate (64 - length xs) (row_of stop))

  -- rows past their ranges were turned back, so the rows that are left hold the instructions whole
  unless_kept : (o : Option ℕ) → lost_target (length xs) 2 xs ≡ o
      → reading_of (unless o NoSuchTarget (Ok (flow h xs))) ≡ after (unless {A = Unit {0}} o NoSuchTarget (Ok tt)) (λ _. Ok (kept_flow h xs))
  unfolding reading_of rows_of kept_flow
  unless_kept None e =
      ap
      (λ (rows : List Row). Ok (record {
        tapes = h.tapes;
        outputs = h.outputs;
        variables = h.variables;
        count = length xs;
        instructions = rows ++ replicate (64 - length xs) (row_of stop);
      }))
      (sym (all-kept h fits (length xs) (omega arith) xs fit (none_lost (length xs) 2 xs e)))
  unless_kept (Some line) e = refl

  judged_kept : reading_of (check (leb 1 (length xs)) NoInstruction (unless (lost_target (length xs) 2 xs) NoSuchTarget (Ok (flow h xs)))) ≡ judged (kept_flow h xs)
  unfolding reading_of kept_flow
  judged_kept =
      rw (rows_kept, length-map xs clamped, lost_clamp h fits (length xs) 2 (omega arith) xs) (by (leb 1 (length xs)))
    where
      by : (b : Bool) → reading_of (check b NoInstruction (unless (lost_target (length xs) 2 xs) NoSuchTarget (Ok (flow h xs))))
          ≡ check b NoInstruction (after (unless {A = Unit {0}} (lost_target (length xs) 2 xs) NoSuchTarget (Ok tt)) (λ _. Ok (kept_flow h xs)))
      by true = unless_kept (lost_target (length xs) 2 xs) refl
      by false = refl

module _ (h : Head) (fits : HeadFits h) (ls : List (List ℕ)) where
  abbrev kept : Result Rows Refusal
  kept = after (read_lines h 1 ls) (λ xs. Ok (kept_flow h xs))

  pub rest_fault : (r : Refusal) → kept ≡ Err r → Err r ≡ reading_of (read_rest h ls)
  unfolding read_rest reading_of
  rest_fault r = by (read_lines h 1 ls)
    where
      by : (read : Result (List Instruction) Refusal) → after read (λ xs. Ok (kept_flow h xs)) ≡ Err r
          → Err r ≡ reading_of (after read (λ xs. check (leb 1 (length xs)) NoInstruction (unless (lost_target (length xs) 2 xs) NoSuchTarget (Ok (flow h xs)))))
      by (Ok xs) e = cc
      by (Err q) e = cc

  module _ {flow : Rows} (e : Ok flow ≡ kept) where
    read : (xs : List Instruction) × (read_lines h 1 ls ≡ Ok xs) × (flow ≡ kept_flow h xs)
    read = by (read_lines h 1 ls) e
      where
        by : (read : Result (List Instruction) Refusal) → Ok flow ≡ after read (λ xs. Ok (kept_flow h xs)) → (xs : List Instruction) × (read ≡ Ok xs) × (flow ≡ kept_flow h xs)
        by (Ok xs) q = (xs, refl, cc)
        by (Err r) q = cc

    few : length read.0 ≤ 64
    few = at-most_64 h ls read.0 read.1

    pub rest_judged : reading_of (read_rest h ls) ≡ judged flow
    unfolding read_rest
    rest_judged = rw read.1 (judged_kept h fits read.0 few (lines_fit h 1 ls read.0 read.1) ∙ ap judged (sym read.2))

    pub rest_sizes : (flow.count ≤ 64) × (length (rows_in flow) ≤ 64)
    unfolding kept_flow
    rest_sizes =
        let count : flow.count ≡ length read.0 = ap (λ (f : Rows). f.count) read.2 in
        let size : length (rows_in flow) ≡ length read.0 =
        ap (λ (f : Rows). length (rows_in f)) read.2 ∙ ap length (rows_kept h fits read.0 few (lines_fit h 1 ls read.0 read.1)) ∙ length-map read.0 clamped in
        (omega (arith, count, few), omega (arith, size, few))

-- ---- the whole text
until-at : (c : ℕ) (text : List ℕ) (i : ℕ) → i < length text → get_or text i 0 ≡ c → until c text ≤ i
unfolding until
until-at c [] i l e = elim l [ ]
until-at c (x ∷ xs) zero l e = rw (eq-eqb x c e) (omega arith)
until-at c (x ∷ xs) (suc i) l e = go (eqb x c) (until-at c xs i (omega arith) e)
  where
    go : (b : Bool) → until c xs ≤ i → cond b 0 (suc (until c xs)) ≤ suc i
    go true h = omega arith
    go false h = omega arith

module _ (text : List ℕ) where
  pub text-long : max_bytes < length text → Err TooLong ≡ reading_of (read_bytes text)
  unfolding read_bytes reading_of
  text-long l = rw (lt-leb (length text) max_bytes l)

  module _ (size : length text ≤ max_bytes) where
    pub text_unended : (get_or text (length text - 1) 0 ≡ 10 → ⊥) → Err NoLastEnd ≡ reading_of (read_bytes text)
    unfolding read_bytes reading_of
    text_unended e = rw (le-leb (length text) max_bytes size, ne_eqb (get_or text (length text - 1) 0) 10 e)

    module _ (Some : 1 ≤ length text) (last : get_or text (length text - 1) 0 ≡ 10) (end : ℕ) (ends : end ≡ 0 + until 10 (drop 0 text)) where
      pub line_ends : end + 1 ≤ length text
      line_ends = omega (arith, ends, until-at 10 text (length text - 1) (omega arith) last)

      first_line : lines text ≡ take end text ∷ lines (drop (end + 1) text)
      first_line = let from_0 : end - 0 ≡ end = omega arith in rw from_0 at (lines_at text 0 end ends (omega (arith, line_ends)))

      by_lines : read_bytes text ≡ after (read_head (split (take end text))) (λ h. read_rest h (lines (drop (end + 1) text)))
      unfolding read_bytes
      by_lines = rw (le-leb (length text) max_bytes size, eq-eqb (get_or text (length text - 1) 0) 10 last, first_line)

      pub text_rest : (h : Head) → Ok h ≡ read_head (split (take end text))
          → reading_of (read_rest h (lines (take (length text - (end + 1)) (drop (end + 1) text)))) ≡ reading_of (read_bytes text)
      text_rest h e =
          let rest : take (length text - (end + 1)) (drop (end + 1) text) ≡ drop (end + 1) text = ap (λ (n : ℕ). take n (drop (end + 1) text)) (sym (length-drop (end + 1) text)) ∙ take-length (drop (end + 1) text) in
          rw (by_lines, ← e, rest)

      pub text-fault : (r : Refusal) → Err r ≡ read_head (split (take end text)) → Err r ≡ reading_of (read_bytes text)
      unfolding reading_of
      text-fault r e = rw (by_lines, ← e)
