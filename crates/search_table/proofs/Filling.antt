-- A column of listed numbers, as a pass fills it. An entry stands at one instruction, so that it concerns the one place of that instruction.
use mathlib.Core.Path.{◌≡◌, refl, sym, ◌∙◌, subst}
use mathlib.Core.Bool.{Bool, false, cond, ◌&&◌}
use mathlib.Core.List.{List}
use Prim.Native.Nat.{ℕ, suc, ◌+◌, ◌<◌}
use native.Mathlib.Decide.{ℕ_discrete}
use native.Mathlib.Omega.{arith}
use lib.ListN.{length, get_or, set, replicate, get_or-replicate, length-set, length-replicate}
use lib.Seq.{get_or-set_same, get_or-set_other}
use lib.Dec.{eqb}
use Rattle.graph.proofs.Wanted.{none-at-start}
use Rattle.model.specs.Machine.{Exit}
use Rattle.flow.specs.Limits.{max_instructions}
use Rattle.configuration.specs.Inner.Place.{words, at_of}
use Rattle.configuration.specs.Inner.Step.{takes_of}
use Rattle.configuration.specs.declared.Op.{Op}
use Rattle.search_table.specs.Inner.Passes.{blank, takes_at, Listed, unmet, Column}
use Rattle.search_table.proofs.PassInvariant.{listed_more, takes-here, takes_elsewhere}

-- what the entries before k take
pub record Filling (w : ℕ) (places patterns distances : List ℕ) (ops : List Op) (e : Exit) (k : ℕ) (cells : List ℕ) : Type 0 where
  pub size : length cells ≡ max_instructions
  pub column : Column w places patterns distances k ops e cells

module _ {w : ℕ} {places patterns distances : List ℕ} {ops : List Op} {e : Exit} where
  pub filling_start : Filling w places patterns distances ops e 0 (replicate max_instructions 0)
  filling_start =
      record {
        size = length-replicate {A = ℕ} max_instructions 0;
        column = record { cell = λ i l. unmet (get_or-replicate max_instructions i 0 0 l) (none-at-start _) };
      }

  -- entry k stands at instruction i + 1: the other numbers stay
  module _ {k : ℕ} {cells : List ℕ} (f : Filling w places patterns distances ops e k cells) (i d r : ℕ) (b : Bool) (room : i < max_instructions)
      (here : at_of (get_or places k 0) ≡ i + 1) (takes : b ≡ takes_of w (get_or ops i blank) (words (get_or places k 0) (get_or patterns k 0)) e)
      (is : r ≡ cond (b && eqb (get_or cells i 0) 0) d (get_or cells i 0)) (far : d ≡ get_or distances k 0 + 1) where
    filling_by : (cells' : List ℕ) → length cells' ≡ length cells → get_or cells' i 0 ≡ r
        → ((j : ℕ) → (j ≡ i → ⊥) → get_or cells' j 0 ≡ get_or cells j 0) → Filling w places patterns distances ops e (k + 1) cells'
    filling_by cells' size new old =
        record { size = size ∙ f.size; column = record { cell = λ j l. by j l (ℕ_discrete j i) } }
      where
        Next : ℕ → ℕ → Type 0
        Next j c = Listed (takes_at w places patterns (get_or ops j blank) (suc j) e) (λ k. get_or distances k 0) (k + 1) c

        by : (j : ℕ) → j < max_instructions → Dec (j ≡ i) → Next j (get_or cells' j 0)
        by j l (yes q) =
            subst (λ (j : ℕ). Next j (get_or cells' j 0)) (sym q)
            (subst (Next i) (sym new)
            (listed_more _ _ k (get_or cells i 0) d r b (takes-here w places patterns (get_or ops i blank) e k (suc i) (omega arith) ∙ sym takes) far is
            (f.column.cell i room)))
        by j l (no q) =
            subst (Next j) (sym (old j q))
            (listed_more _ _ k (get_or cells j 0) (get_or distances k 0 + 1) (get_or cells j 0) false
            (takes_elsewhere w places patterns (get_or ops j blank) e k (suc j) (λ s. q (omega arith))) refl refl (f.column.cell j l))

    pub filling_more : Filling w places patterns distances ops e (k + 1) (set cells i r)
    filling_more =
        filling_by (set cells i r) (length-set cells i r) (get_or-set_same cells i r 0 (omega (arith, f.size)))
        (λ j q. get_or-set_other cells i j r 0 q)

    -- its number stays too
    pub filling_same : get_or cells i 0 ≡ r → Filling w places patterns distances ops e (k + 1) cells
    filling_same same = filling_by cells refl same (λ j q. refl)

  pub filling_end : {k n : ℕ} {cells : List ℕ} → Filling w places patterns distances ops e k cells → k ≡ n
      → Column w places patterns distances n ops e cells
  filling_end {cells = cells} f q = subst (λ (n : ℕ). Column w places patterns distances n ops e cells) q f.column
