-- A step of the code is a step of the machine on the state that the code holds. What is left of a tape is a part of the row, so that
-- reading a record moves the tape's place on by one; every other kind leaves the places alone. A fact of a row is shown for its kind.
use mathlib.Core.Path.{◌≡◌, refl, sym, subst, ap, ◌∙◌}
use mathlib.Core.Bool.{true, false}
use mathlib.Core.List.{List, [], ◌∷◌}
use mathlib.Core.Option.{some}
use Prim.Native.Nat.{ℕ, zero, suc, ◌+◌, ◌-◌, ◌≤◌, ◌<◌}
use native.Mathlib.Omega.{arith}
use native.Mathlib.Numerals.{add-one}
use lib.IntN.{ℤ, pos}
use lib.ListN.{length, get_or, set, take, drop_of_length-le, length-take, length-set}
use lib.Seq.{slice, slice-cons}
use Rattle.model.specs.Machine.{step_by, exit_by, State, read_from, has_record, exit_if}
use Rattle.flow.specs.declared.Instruction.{Instruction as Row}
use Rattle.flow.specs.declared.Kind.{Kind}
use Rattle.flow.specs.declared.Kind.TheVariants.{Read}
use Rattle.flow.specs.Inner.Rows.{instruction_of, branches}
use Rattle.interpreter.specs.declared.Onward.{Onward}
use Rattle.interpreter.specs.Inner.Arrays.{count_at, either_on, exit_when, left_in, held, Placed, RowFits, Stepped}

-- ---- what is left of a tape

pub left_at : (row : List ℤ) (at ends : List ℕ) (i : ℕ) → i < length at → i < length ends
    → get_or (left_in row at ends) i [] ≡ slice (get_or at i 0) (get_or ends i 0) row
unfolding left_in
left_at row [] ends i h k = absurd (omega arith)
left_at row (a ∷ at) [] i h k = absurd (omega arith)
left_at row (a ∷ at) (e ∷ ends) zero h k = refl
left_at row (a ∷ at) (e ∷ ends) (suc i) h k = left_at row at ends i (omega arith) (omega arith)

pub left-moved : (row : List ℤ) (at ends : List ℕ) (i k : ℕ)
    → left_in row (set at i k) ends ≡ set (left_in row at ends) i (slice k (get_or ends i 0) row)
unfolding left_in
left-moved row [] ends i k = refl
left-moved row (a ∷ at) [] zero k = refl
left-moved row (a ∷ at) [] (suc i) k = refl
left-moved row (a ∷ at) (e ∷ ends) zero k = refl
left-moved row (a ∷ at) (e ∷ ends) (suc i) k = ap (λ (l : List (List ℤ)). slice a e row ∷ l) (left-moved row at ends i k)

pub used-up : (row : List ℤ) (k e : ℕ) → e ≤ k → slice k e row ≡ []
used-up row k e h = drop_of_length-le (take e row) {i = k} (omega (arith, length-take e row))

-- ---- a row of a known kind

abbrev pub kinded : Row → Kind → Row
kinded x k = record { kind = k; first = x.first; second = x.second; third = x.third; fourth = x.fourth }

pub fits_kind : (x : Row) {k : Kind} → x.kind ≡ k → RowFits x → RowFits (kinded x k)
fits_kind x e h = subst RowFits (ap (kinded x) e) h

-- ---- a step

module _ (x : Row) (row : List ℤ) (ends : List ℕ) (vs : List ℤ) (at : List ℕ) where
  -- a row steps as the row of its kind does
  pub stepped : {k : Kind} {vs' w : List ℤ} {at' b : List ℕ} {went t : Onward}
      → x.kind ≡ k → vs' ≡ w → at' ≡ b → went ≡ t
      → ((n : ℕ) → step_by (instruction_of (kinded x k)) (held n row vs at ends) ≡ held t.next row w b ends)
      → ((n : ℕ) → exit_by (instruction_of (kinded x k)) (held n row vs at ends) ≡ exit_when (branches k) t.first)
      → length b ≡ length at
      → Stepped x row ends vs at vs' at' went
  stepped {k} {vs'} {w} {at'} {b} {went} {t} is gets moves tells state exit kept =
      subst (λ (y : Row). Stepped y row ends vs at vs' at' went) (sym (ap (kinded x) is))
      (subst (λ (l : List ℤ). Stepped (kinded x k) row ends vs at l at' went) (sym gets)
      (subst (λ (l : List ℕ). Stepped (kinded x k) row ends vs at w l went) (sym moves)
      (subst (λ (o : Onward). Stepped (kinded x k) row ends vs at w b o) (sym tells)
      (record { state = state; exit = exit; kept = kept }))))

  -- a read steps by whether its tape has a record left
  module _ (is : x.kind ≡ Read) (placed : Placed row at ends) (few : count_at x 0 - 1 < 3) where
    tape-left : get_or (left_in row at ends) (count_at x 0 - 1) [] ≡ slice (get_or at (count_at x 0 - 1) 0) (get_or ends (count_at x 0 - 1) 0) row
    tape-left = left_at row at ends (count_at x 0 - 1) (omega arith) (omega arith)

    abbrev reads : List ℤ → ℕ → State
    reads l n = read_from l (count_at x 0) (count_at x 1) (count_at x 2) (count_at x 3) (held n row vs at ends)

    pub read_none : {went : Onward} → get_or ends (count_at x 0 - 1) 0 ≤ get_or at (count_at x 0 - 1) 0 → went ≡ either_on x false → Stepped x row ends vs at vs at went
    read_none used goes =
        let none = tape-left ∙ used-up row (get_or at (count_at x 0 - 1) 0) (get_or ends (count_at x 0 - 1) 0) used in
        stepped is refl refl goes
        (λ n. ap (λ (l : List ℤ). reads l n) none)
        (λ n. ap (λ (l : List ℤ). some (exit_if (has_record l))) none)
        refl

    pub read_some : {vs' : List ℤ} {at' : List ℕ} {went : Onward} (k : ℕ)
        → k ≡ get_or at (count_at x 0 - 1) 0
        → k < get_or ends (count_at x 0 - 1) 0
        → vs' ≡ set vs (count_at x 1 - 1) (get_or row k (pos 0))
        → at' ≡ set at (count_at x 0 - 1) (k + 1)
        → went ≡ either_on x true
        → Stepped x row ends vs at vs' at' went
    read_some k is_at left gets moves goes =
        stepped is gets moves goes
        (λ n. ap (λ (l : List ℤ). reads l n) next
        ∙ (λ i. record { next = count_at x 2; variables = set vs (count_at x 1 - 1) (get_or row k (pos 0)); left = rest i; ended = [] }))
        (λ n. ap (λ (l : List ℤ). some (exit_if (has_record l))) next)
        (length-set at (count_at x 0 - 1) (k + 1))
      where
        e : ℕ
        e = get_or ends (count_at x 0 - 1) 0

        next : get_or (left_in row at ends) (count_at x 0 - 1) [] ≡ get_or row k (pos 0) ∷ slice (suc k) e row
        next = tape-left ∙ ap (λ (j : ℕ). slice j e row) (sym is_at) ∙ slice-cons k e row (pos 0) left (placed.within (count_at x 0 - 1))

        rest : set (left_in row at ends) (count_at x 0 - 1) (slice (suc k) e row) ≡ left_in row (set at (count_at x 0 - 1) (k + 1)) ends
        rest = rw add-one (sym (left-moved row at ends (count_at x 0 - 1) (suc k)))
