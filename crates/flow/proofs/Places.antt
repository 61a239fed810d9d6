-- The place of a refused text fits a byte. A refusal of a line names that line, and only the lines of instructions 1 to 64 are looked at; a
-- target that names no instruction stands on one of them; line 66 is one too many. So no place is past 66. Each part of the reading is a
-- chain of checks, and `search` goes along it by one law for each kind of check.
use mathlib.Core.Path.{◌≡◌, refl, subst}
use mathlib.Core.Bool.{Bool, true, false, cond}
use mathlib.Core.List.{List, [], ◌∷◌}
use Rattle.std.specs.Prelude.{Option, None, Some}
use Prim.Native.Nat.{ℕ, suc, ◌+◌, ◌≤◌}
use native.Mathlib.Omega.{arith}
use borrow.Author.Tests.{leb-true}
use lib.ListN.{length}
use Rattle.model.specs.Language.{Instruction, fields}
use Rattle.flow.specs.Limits.{max_instructions}
use Rattle.std.specs.Prelude.{Result, Ok, Err}
use Rattle.flow.specs.Read.{check, given, after, unless, is_named, all, head_of, read_head, read_line, read_lines, lost_target, read_rest, read_bytes, read_flow}
use Rattle.flow.specs.Refusals.{place_of}
use Rattle.flow.specs.declared.Head.{Head}
use Rattle.flow.specs.declared.Refusal.{Refusal}
use Rattle.flow.specs.declared.Refusal.TheVariants.{NoSuchTarget}
use Rattle.flow.proofs.ReadLaws.{at-most_64}

-- an answer that is no refusal, or one whose place is at most 66
abbrev Within : {A : Type 0} → Result A Refusal → Type 0
Within (Ok x) = Unit {0}
Within (Err why) = place_of why ≤ max_instructions + 2

-- ---- the checks keep it
check-within : {A : Type 0} (b : Bool) (r : Refusal) (rest : Result A Refusal) → Within {A = A} (Err r) → (b ≡ true → Within rest) → Within (check b r rest)
check-within true r rest near h = h refl
check-within false r rest near h = near

given-within : {A B : Type 0} (o : Option A) (r : Refusal) (rest : A → Result B Refusal) → Within {A = B} (Err r) → ((x : A) → Within (rest x)) → Within (given o r rest)
given-within None r rest near h = near
given-within (Some x) r rest near h = h x

after-within : {A B : Type 0} (a : Result A Refusal) (rest : A → Result B Refusal) → Within a → ((x : A) → a ≡ Ok x → Within (rest x)) → Within (after a rest)
after-within (Ok x) rest w h = h x refl
after-within (Err r) rest w h = w

-- ---- the parts of a text, each with the places of its refusals
head-within : (fs : List (List ℕ)) → Within (read_head fs)
unfolding read_head head_of
head-within fs = let near : 1 ≤ max_instructions + 2 = omega arith in search (check-within, given-within, tt) depth 20

line_within : (h : Head) (i : ℕ) (fs : List (List ℕ)) → i ≤ max_instructions → Within (read_line h i fs)
unfolding read_line
line_within h i fs few = let near : i + 1 ≤ max_instructions + 2 = omega arith in search (check-within, given-within, tt) depth 20

lines-within : (h : Head) (i : ℕ) (ls : List (List ℕ)) → Within (read_lines h i ls)
unfolding read_lines
lines-within h i [] = tt
lines-within h i (l ∷ ls) = let near : 66 ≤ max_instructions + 2 = omega arith in let rest = lines-within h (suc i) ls in
    search (check-within, after-within, line_within, leb-true, tt) depth 20

targets-within : {A : Type 0} (count line : ℕ) (xs : List Instruction) (x : A) → line + length xs ≤ max_instructions + 2
    → Within (unless (lost_target count line xs) NoSuchTarget (Ok x))
unfolding lost_target
targets-within count line [] x few = tt
targets-within count line (y ∷ ys) x few = go (all (is_named count) (fields y)) (lost_target count (suc line) ys) (targets-within count (suc line) ys x (omega arith))
  where
    go : (b : Bool) (o : Option ℕ) → Within (unless o NoSuchTarget (Ok x)) → Within (unless (cond b o (Some line)) NoSuchTarget (Ok x))
    go true o later = later
    go false o later = omega arith

rest_within : (h : Head) (ls : List (List ℕ)) → Within (read_rest h ls)
unfolding read_rest
rest_within h ls =
    after-within (read_lines h 1 ls) _ (lines-within h 1 ls) (λ xs read.
    let near : 2 ≤ max_instructions + 2 = omega arith in let few : 2 + length xs ≤ max_instructions + 2 = omega (arith, at-most_64 h ls xs read) in
    search (check-within, targets-within))

bytes-within : (text : List ℕ) → Within (read_bytes text)
unfolding read_bytes
bytes-within text = let near : 0 ≤ max_instructions + 2 = omega arith in search (check-within, after-within, head-within, rest_within) depth 20

text-within : (text : List ℕ) → Within (read_flow text)
unfolding read_flow
text-within [] = tt
text-within (b ∷ bs) = bytes-within (b ∷ bs)

pub read-place : (text : List ℕ) (why : Refusal) → read_flow text ≡ Err why → place_of why ≤ max_instructions + 2
read-place text why e = subst Within e (text-within text)
