-- `tape_sets` meets its contract: one, two or three tapes, each computed.
use mathlib.Core.Path.{◌≡◌, refl}
use mathlib.Core.Logic.{◌⊎◌, inl, inr}
use Prim.Native.Nat.{ℕ, zero, suc, ◌≤◌}
use native.Mathlib.Omega.{arith}
use Rattle.flow_bound.proofs.tape_sets.Goals as goal

one_to_three : (t : ℕ) → 1 ≤ t → t ≤ 3 → (t ≡ 1) ⊎ ((t ≡ 2) ⊎ (t ≡ 3))
one_to_three zero h k = absurd (omega arith)
one_to_three (suc zero) h k = inl refl
one_to_three (suc (suc zero)) h k = inr (inl refl)
one_to_three (suc (suc (suc zero))) h k = inr (inr refl)
one_to_three (suc (suc (suc (suc t)))) h k = absurd (omega arith)

pub returns : goal.returns
returns c = elim (one_to_three c.args.t c.requires.0 c.requires.1) [
  | inl e ↦ rw e (refl, omega arith)
  | inr (inl e) ↦ rw e (refl, omega arith)
  | inr (inr e) ↦ rw e (refl, omega arith)
]
