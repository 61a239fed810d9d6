-- What the tests on the fields of a legal flow say: its instructions name their own tapes and variables, and go on to instructions that
-- there are.
use mathlib.Core.Path.{◌≡◌, refl}
use mathlib.Core.Bool.{Bool, true, false, ◌&&◌, false≢true}
use mathlib.Core.List.{List, [], ◌∷◌}
use Prim.Native.Nat.{ℕ, ◌≤◌}
use borrow.Author.Tests.{leb-true}
use lib.Dec.{leb}
use lib.ListN.{length}
use Rattle.model.specs.Language.{Instruction, Flow, instruction, Field, tape, output, variable, target, constant, fields, C1, C2}
use Rattle.model.proofs.View.{OnTarget, targeted}
use Rattle.model.proofs.Constants.{legal_basic}
use Rattle.model.specs.Inner.Lists.{All}
use Rattle.model.specs.Inner.View.{Numbered, LegalFlow, Targeted, view, view_at}
use Rattle.flow.specs.Read.{all, in_range, is_named}
use Rattle.flow.specs.Legal.{Legal, head}

pub and_split : (a b : Bool) → (a && b) ≡ true → (a ≡ true) × (b ≡ true)
and_split true b e = (refl, e)
and_split false b e = absurd (false≢true e)

-- from 1 up to a count
pub counts-from-one : (n most : ℕ) → (leb 1 n && leb n most) ≡ true → (1 ≤ n) × (n ≤ most)
counts-from-one n most e = let (a, b) = and_split (leb 1 n) (leb n most) e in (leb-true 1 n a, leb-true n most b)

-- a test on every field, as a fact on every field
pub all_hold : (test : Field → Bool) (P : Field → Type 0) → ((f : Field) → test f ≡ true → P f) → (fs : List Field) → all test fs ≡ true → All P fs
unfolding all
all_hold test P h [] e = tt
all_hold test P h (f ∷ fs) e = let (a, b) = and_split (test f) (all test fs) e in (h f a, all_hold test P h fs b)

-- what the theory of the model asks of a flow, with its own C1 and C2
pub ranges-sound : (flow : Flow) → ((i : ℕ) → all (in_range (head flow)) (fields (instruction flow i)) ≡ true) → LegalFlow (C1 flow) (C2 flow) flow
ranges-sound flow h = legal_basic flow (λ i. all_hold (in_range (head flow)) (Numbered flow) one (fields (instruction flow i)) (h i))
  where
    one : (f : Field) → in_range (head flow) f ≡ true → Numbered flow f
    one (tape n) e = counts-from-one n flow.tapes e
    one (output n) e = tt
    one (variable n) e = counts-from-one n flow.variables e
    one (target n) e = tt
    one (constant c) e = tt

-- what holds of every number from 1 up to a count holds of the targets that name one of so many instructions
pub named_targets : (P : ℕ → Type 0) (count : ℕ) → ((n : ℕ) → (1 ≤ n) × (n ≤ count) → P n)
    → (x : Instruction) → all (is_named count) (fields x) ≡ true → Targeted P (view x)
named_targets P count h x e = targeted P x (all_hold (is_named count) (OnTarget P) one (fields x) e)
  where
    one : (f : Field) → is_named count f ≡ true → OnTarget P f
    one (tape n) e = tt
    one (output n) e = tt
    one (variable n) e = tt
    one (target n) e = h n (counts-from-one n count e)
    one (constant c) e = tt

pub legal-targets : (P : ℕ → Type 0) (flow : Flow) → ((n : ℕ) → (1 ≤ n) × (n ≤ length flow.instructions) → P n)
    → Legal flow → (i : ℕ) → Targeted P (view_at flow i)
legal-targets P flow h legal i = named_targets P (length flow.instructions) h (instruction flow i) (legal.targets i)
