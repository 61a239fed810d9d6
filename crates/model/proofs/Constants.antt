-- The range of a flow's own constants: 0 and every constant of the flow lie from C1 to C2. So a flow that names its own tapes and variables is
-- legal between them.
use mathlib.Core.Path.{◌≡◌, refl}
use mathlib.Core.Bool.{Bool, true, false, cond}
use mathlib.Core.List.{List, [], ◌∷◌}
use mathlib.Core.Logic.{◌⊎◌, inl, inr}
use Prim.Native.Nat.{ℕ, zero, suc}
use lib.IntN.{ℤ, pos}
use lib.Signed.{lt_z}
use lib.ListN.{get_or}
use Rattle.model.specs.Language.{Instruction, stop, Flow, instruction, fields, constants, all_constants, least, greatest, C1, C2}
use Rattle.graph.specs.Lists.{In}
use Rattle.model.proofs.Integers.{zarith}
use Rattle.model.proofs.Lists.{in_left, in_right}
use Rattle.model.specs.Inner.Lists.{All}
use Rattle.model.specs.Inner.Integers.{Inside}
use Rattle.model.specs.Inner.View.{Numbered, LegalFlow}

-- one more constant: it lies inside, and what lay inside still does
wider : (c lo hi x : ℤ) → Inside lo hi (pos 0) → (x ≡ c) ⊎ Inside lo hi x → Inside (cond (lt_z c lo) c lo) (cond (lt_z hi c) c hi) x
wider c lo hi x z h = go (lt_z c lo) (lt_z hi c) refl refl h
  where
    go : (a b : Bool) → lt_z c lo ≡ a → lt_z hi c ≡ b → (x ≡ c) ⊎ Inside lo hi x → Inside (cond a c lo) (cond b c hi) x
    go true true p q (inl e) = record { low = omega zarith; high = omega zarith }
    go true false p q (inl e) = record { low = omega zarith; high = omega zarith }
    go false true p q (inl e) = record { low = omega zarith; high = omega zarith }
    go false false p q (inl e) = record { low = omega zarith; high = omega zarith }
    go true true p q (inr k) = record { low = omega zarith; high = omega zarith }
    go true false p q (inr k) = record { low = omega zarith; high = omega zarith }
    go false true p q (inr k) = record { low = omega zarith; high = omega zarith }
    go false false p q (inr k) = k

zero-among : (cs : List ℤ) → Inside (least cs) (greatest cs) (pos 0)
unfolding least greatest
zero-among [] = record { low = tt; high = tt }
zero-among (c ∷ cs) = wider c (least cs) (greatest cs) (pos 0) (zero-among cs) (inr (zero-among cs))

each-among : (cs : List ℤ) (x : ℤ) → In x cs → Inside (least cs) (greatest cs) x
unfolding least greatest
each-among (c ∷ cs) x (inl e) = wider c (least cs) (greatest cs) x (zero-among cs) (inl e)
each-among (c ∷ cs) x (inr h) = wider c (least cs) (greatest cs) x (zero-among cs) (inr (each-among cs x h))
each-among [] x x3 = elim x3 [ ]

pub zero_basic : (flow : Flow) → Inside (C1 flow) (C2 flow) (pos 0)
unfolding C1 C2
zero_basic flow = zero-among (all_constants flow.instructions)

pub constant_basic : (flow : Flow) (c : ℤ) → In c (all_constants flow.instructions) → Inside (C1 flow) (C2 flow) c
unfolding C1 C2
constant_basic flow c h = each-among (all_constants flow.instructions) c h

constant-at : (is : List Instruction) (j : ℕ) (c : ℤ) → In c (constants (fields (get_or is j stop))) → In c (all_constants is)
unfolding all_constants constants
constant-at [] j c h = absurd h
constant-at (i ∷ is) zero c h = in_left (constants (fields i)) (all_constants is) c h
constant-at (i ∷ is) (suc j) c h = in_right (constants (fields i)) (all_constants is) c (constant-at is j c h)

constant_of : (flow : Flow) (i : ℕ) (c : ℤ) → In c (constants (fields (instruction flow i))) → In c (all_constants flow.instructions)
unfolding constants
constant_of flow zero c h = absurd h
constant_of flow (suc i) c h = constant-at flow.instructions i c h

pub legal_basic : (flow : Flow) → ((i : ℕ) → All (Numbered flow) (fields (instruction flow i))) → LegalFlow (C1 flow) (C2 flow) flow
legal_basic flow h = record { zero = zero_basic flow; numbers = h; constants_inside = λ i c k. constant_basic flow c (constant_of flow i c k) }
