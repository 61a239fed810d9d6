-- The records that a way takes, counted step by step. Each step adds at most one to one tape, so that the counts stay small and never fall.
use mathlib.Core.Path.{◌≡◌, refl, sym, ap, ap₂, ◌∙◌, subst}
use mathlib.Core.Bool.{Bool, true, false, not, cond, ◌&&◌}
use mathlib.Core.List.{List}
use Prim.Native.Nat.{ℕ, zero, suc, ◌+◌, ◌-◌, ◌<◌, ◌≤◌}
use native.Mathlib.Decide.{ℕ_discrete, dec_lt}
use native.Mathlib.Omega.{arith}
use lib.ListN.{length, get_or, set, replicate, length-set, length-replicate, get_or-replicate, get_or-eq_default}
use lib.Seq.{get_or-set_same, get_or-set_other, set_out}
use Rattle.flow.specs.Limits.{max_tapes}
use Rattle.configuration.specs.Inner.Place.{at_of}
use Rattle.configuration.specs.Inner.Step.{ended_of}
use Rattle.configuration.specs.declared.Op.{Op}
use Rattle.cells.specs.Inner.Columns.{place_field, way_field, column, word_column}
use Rattle.cells.proofs.Fields.{length-column, length-word-column}
use Rattle.search_table.specs.Inner.Passes.{blank}
use Rattle.search_table.specs.Inner.Way.{Passable, place_on, op_on, is_read, counted_of, reads_on}

-- the entry at place t of a way is there
pub on_way : (c : List (List ℕ)) {last : ℕ} → Passable (word_column place_field c) (column way_field c) last → (t : ℕ) → t ≤ last
    → record { t_in_bounds : t < length c; t_in_bounds_2 : get_or (column way_field c) t 0 < length c }
on_way c p t l =
    record { t_in_bounds = omega (arith, p.room, length-column way_field c); t_in_bounds_2 = omega (arith, p.entry t l, length-word-column place_field c) }

-- ---- what a step does to the counts
module _ (counts : List ℕ) (op : Op) (taken : Bool) where
  length-counted : length (counted_of counts op taken) ≡ length counts
  unfolding counted_of
  length-counted = by (is_read op.action && taken)
    where
      by : (b : Bool) → length (cond b (set counts op.tape (get_or counts op.tape 0 + 1)) counts) ≡ length counts
      by true = length-set counts op.tape (get_or counts op.tape 0 + 1)
      by false = refl

  -- a tape's count stays or grows by one
  abbrev Grows : ℕ → List ℕ → Type 0
  Grows a l = (get_or counts a 0 ≤ get_or l a 0) × (get_or l a 0 ≤ get_or counts a 0 + 1)

  counted-grows : (a : ℕ) → Grows a (counted_of counts op taken)
  unfolding counted_of
  counted-grows a = by (is_read op.action && taken)
    where
      added : List ℕ
      added = set counts op.tape (get_or counts op.tape 0 + 1)

      at : Dec (op.tape < length counts) → Dec (a ≡ op.tape) → Grows a added
      at (yes l) (yes e) =
          subst (λ (j : ℕ). Grows j added) (sym e) (omega (arith, get_or-set_same counts op.tape (get_or counts op.tape 0 + 1) 0 l))
      at (no l) (yes e) =
          subst (λ (m : List ℕ). Grows a m) (sym (set_out counts op.tape (get_or counts op.tape 0 + 1) (omega arith))) (omega arith)
      at d (no e) = omega (arith, get_or-set_other counts op.tape a (get_or counts op.tape 0 + 1) 0 e)

      by : (b : Bool) → Grows a (cond b added counts)
      by true = at (dec_lt op.tape (length counts)) (ℕ_discrete a op.tape)
      by false = omega arith

-- ---- the steps of a way
module _ (ops : List Op) (places path : List ℕ) where
  abbrev taking : ℕ → Bool
  taking t = not (ended_of (place_on places path (suc t)) (op_on ops places path t).tape)

  pub length-reads : (t : ℕ) → length (reads_on ops places path t) ≡ max_tapes
  unfolding reads_on
  length-reads zero = length-replicate {A = ℕ} max_tapes 0
  length-reads (suc t) = length-counted (reads_on ops places path t) (op_on ops places path t) (taking t) ∙ length-reads t

  -- the counts never fall
  pub reads_grow : (t a : ℕ) → get_or (reads_on ops places path t) a 0 ≤ get_or (reads_on ops places path (suc t)) a 0
  unfolding reads_on
  reads_grow t a = (counted-grows (reads_on ops places path t) (op_on ops places path t) (taking t) a).0

  pub reads_rise : (t g a : ℕ) → get_or (reads_on ops places path t) a 0 ≤ get_or (reads_on ops places path (t + g)) a 0
  reads_rise t zero a =
      let e : t ≡ t + 0 = omega arith in
      subst (λ (u : ℕ). get_or (reads_on ops places path t) a 0 ≤ get_or (reads_on ops places path u) a 0) e (omega arith)
  reads_rise t (suc g) a =
      let e : suc (t + g) ≡ t + suc g = omega arith in
      subst (λ (u : ℕ). get_or (reads_on ops places path t) a 0 ≤ get_or (reads_on ops places path u) a 0) e
      (omega (arith, reads_rise t g a, reads_grow (t + g) a))

  -- and are at most the number of steps
  pub reads-few : (t a : ℕ) → get_or (reads_on ops places path t) a 0 ≤ t
  unfolding reads_on
  reads-few zero a = go (dec_lt a max_tapes)
    where
      go : Dec (a < max_tapes) → get_or (replicate max_tapes 0) a 0 ≤ 0
      go (yes l) = omega (arith, get_or-replicate {A = ℕ} max_tapes a 0 0 l)
      go (no l) = omega (arith, get_or-eq_default {A = ℕ} (replicate max_tapes 0) 0 {n = a} (omega arith))
  reads-few (suc t) a = omega (arith, (counted-grows (reads_on ops places path t) (op_on ops places path t) (taking t) a).1, reads-few t a)

  pub reads-start : replicate max_tapes 0 ≡ reads_on ops places path 0
  unfolding reads_on
  reads-start = refl

  -- one step more
  pub reads_more : (t i : ℕ) (counts r : List ℕ) (ended : Bool) → counts ≡ reads_on ops places path t → at_of (place_on places path t) ≡ i + 1
      → ended ≡ ended_of (place_on places path (t + 1)) (get_or ops i blank).tape → r ≡ counted_of counts (get_or ops i blank) (not ended)
      → r ≡ reads_on ops places path (t + 1)
  unfolding reads_on
  reads_more t i counts r ended so_far here e h =
      let j : i ≡ at_of (place_on places path t) - 1 = omega arith in
      let s : t + 1 ≡ suc t = omega arith in
      let b = e ∙ ap₂ (λ (u k : ℕ). ended_of (place_on places path u) (get_or ops k blank).tape) s j in
      h ∙ (λ x. counted_of (so_far x) (get_or ops (j x) blank) (not (b x))) ∙ ap (reads_on ops places path) (sym s)
