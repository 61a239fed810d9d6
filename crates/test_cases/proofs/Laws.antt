-- The first empty line, byte by byte, and the order of a case's places.
use mathlib.Core.Path.{◌≡◌, refl, ap, ◌∙◌}
use mathlib.Core.Bool.{Bool, true, false, cond, ◌&&◌}
use mathlib.Core.List.{List, [], ◌∷◌}
use Prim.Native.Nat.{ℕ, suc, ◌+◌, ◌≤◌, ◌<◌, max}
use native.Mathlib.Omega.{arith}
use Rattle.std.proofs.lemmas.Bool.Decides.{nat_tests}
use native.Mathlib.Numerals.{add-one}
use lib.Dec.{eqb}
use lib.ListN.{length, get_or, drop, length-drop, drop_of_length-le}
use lib.Seq.{drop-cons}
use Rattle.test_cases.specs.Cases.{Places, before_empty, line_end, empty_line, text_start, next_case, Ordered, CaseAt}
use Rattle.test_cases.specs.declared.Case.{Case}
use Rattle.std.specs.Prelude.{slice_range}
use Rattle.text.specs.Inner.Divided.{until}

-- ---- one byte further
empty_by : (opens ends : Bool) (xs : List ℕ) → (opens && ends) ≡ false
    → cond ends (cond opens 0 (suc (before_empty true xs))) (suc (before_empty false xs)) ≡ suc (before_empty ends xs)
empty_by true true xs e = cc
empty_by true false xs e = refl
empty_by false true xs e = refl
empty_by false false xs e = refl

here_by : (opens ends : Bool) (n m : ℕ) → (opens && ends) ≡ true → cond ends (cond opens 0 n) m ≡ 0
here_by true true n m e = refl
here_by true false n m e = cc
here_by false ends n m e = cc

module _ (file : List ℕ) (opens : Bool) (at : ℕ) where
  pub empty_here : at < length file → (opens && eqb (get_or file at 0) 10) ≡ true → before_empty opens (drop at file) ≡ 0
  unfolding before_empty
  empty_here l e = rw (drop-cons file at 0) (here_by opens (eqb (get_or file at 0) 10) _ _ e)

  pub empty_further : at < length file → (opens && eqb (get_or file at 0) 10) ≡ false
      → before_empty opens (drop at file) ≡ suc (before_empty (eqb (get_or file at 0) 10) (drop (at + 1) file))
  unfolding before_empty
  empty_further l e = rw (add-one, drop-cons file at 0) (empty_by opens (eqb (get_or file at 0) 10) (drop (suc at) file) e)

  pub empty_end : length file ≤ at → before_empty opens (drop at file) ≡ 0
  unfolding before_empty
  empty_end l = rw (drop_of_length-le file l)

-- ---- the order of the places
level : {n m : ℕ} (t : Bool) → n ≤ m → cond t 0 (suc n) ≤ suc m
level t h = grind (arith, nat_tests)

shorter : {n k m : ℕ} (o t : Bool) → n ≤ m → k ≤ m → cond t (cond o 0 (suc n)) (suc k) ≤ suc m
shorter o t h g = grind (arith, nat_tests)

until-within : (c : ℕ) (xs : List ℕ) → until c xs ≤ length xs
unfolding until
until-within c [] = omega arith
until-within c (x ∷ xs) = level (eqb x c) (until-within c xs)

empty_within : (opens : Bool) (xs : List ℕ) → before_empty opens xs ≤ length xs
unfolding before_empty
empty_within opens [] = omega arith
empty_within opens (x ∷ xs) = shorter opens (eqb x 10) (empty_within true xs) (empty_within false xs)

-- the text starts behind the name
start-within : (file : List ℕ) (at : ℕ) → (at ≤ text_start file at) × (text_start file at ≤ max at (length file))
start-within file at = grind (arith, nat_tests)

pub case_ordered : (file : List ℕ) (at : ℕ) → Ordered file at (next_case file at)
unfolding next_case
case_ordered file at =
    let named = line_end file at in
    let start = text_start file named in
    let b = start-within file named in
    let u = until-within 10 (drop at file) in
    let e = empty_within true (drop start file) in
    record {
      name = omega arith;
      text = b.0;
      back = omega arith;
      within = omega (arith, length-drop at file, length-drop start file);
    }

-- the case, found place by place
next-is : (file : List ℕ) (at : ℕ) (r : Places) → r.named ≡ line_end file at → r.start ≡ text_start file r.named → r.end ≡ empty_line file r.start
    → r ≡ next_case file at
unfolding next_case
next-is file at r hn hs he = rw (he, hs, hn)

pub case_at : (file : List ℕ) (at : ℕ) (case : Case) (r : Places) → at < length file → r.named ≡ line_end file at → r.start ≡ text_start file r.named
    → r.end ≡ empty_line file r.start → case.name.now ≡ slice_range file at r.named → case.text.now ≡ slice_range file r.start r.end
    → CaseAt file at case (r.end + 1)
case_at file at case r inside hn hs he name text =
    let is = next-is file at r hn hs he in
    record {
      inside = inside;
      named = name ∙ ap (λ (p : Places). slice_range file at p.named) is;
      holds = text ∙ ap (λ (p : Places). slice_range file p.start p.end) is;
      ordered = case_ordered file at;
      further = ap (λ (p : Places). p.end + 1) is;
    }
