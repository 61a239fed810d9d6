-- The way of parents. Each parent is before its entry, so that the first entry is reached. The way is counted up from its end, and then written
-- from there.
use mathlib.Core.Path.{◌≡◌, refl, sym, ap, ◌∙◌, subst}
use mathlib.Core.List.{List}
use Prim.Native.Nat.{ℕ, zero, suc, ◌+◌, ◌-◌, ◌≤◌, ◌<◌}
use native.Mathlib.Decide.{ℕ_discrete}
use native.Mathlib.Omega.{arith}
use lib.ListN.{length, get_or, set}
use lib.Seq.{get_or-set_same, get_or-set_other}
use Rattle.cells.specs.Inner.Columns.{parent_field, way_field, column, Only, Stored}
use Rattle.cells.specs.Inner.Way.{Parents, ancestor, Depth, Traced}
use Rattle.cells.proofs.Fields.{length-column}

-- one parent further up
up : (parents : List ℕ) (s i : ℕ) {m : ℕ} → m ≡ s + 1 → ancestor parents m i ≡ get_or parents (ancestor parents s i) 0
unfolding ancestor
up parents s i {m} e = let x : m ≡ suc s = omega arith in ap (λ (v : ℕ). ancestor parents v i) x

-- entry i is s parents up from entry `at`, and none below it is the first
pub record Counted (parents : List ℕ) (at i s : ℕ) : Type 0 where
  pub here : ancestor parents s at ≡ i
  pub later : (t : ℕ) → t < s → 0 < ancestor parents t at

pub count-start : (parents : List ℕ) (at : ℕ) → Counted parents at at 0
unfolding ancestor
count-start parents at = record { here = refl; later = λ t l. absurd (omega arith) }

pub count-more : {parents : List ℕ} {at i s : ℕ} → Counted parents at i s → 0 < i → (j : ℕ) → j ≡ get_or parents i 0 → Counted parents at j (s + 1)
count-more {parents} {at} {i} {s} c l j e =
    record {
      here = up parents s at refl ∙ ap (λ (v : ℕ). get_or parents v 0) c.here ∙ sym e;
      later = λ t m. go t m (ℕ_discrete t s);
    }
  where
    go : (t : ℕ) → t < s + 1 → Dec (t ≡ s) → 0 < ancestor parents t at
    go t m (yes x) = omega (arith, ap (λ (v : ℕ). ancestor parents v at) x, c.here)
    go t m (no x) = c.later t (omega arith)

module _ {parents : List ℕ} {n at : ℕ} (ps : Parents parents n) (l : at < n) where
  -- each parent is earlier
  pub ancestor_falls : (s : ℕ) → ((t : ℕ) → t < s → 0 < ancestor parents t at) → ancestor parents s at + s ≤ at
  unfolding ancestor
  ancestor_falls zero later = omega arith
  ancestor_falls (suc s) later =
      let h = ancestor_falls s (λ t m. later t (omega arith)) in
      omega (arith, h, ps.before (ancestor parents s at) (later s (omega arith)) (omega (arith, h)))

  pub depth_small : {s : ℕ} → Depth parents at s → s ≤ at
  depth_small {s} d = omega (arith, ancestor_falls s d.later)

-- ---- the way, written from its end: path holds the entries of the steps after t, and entry i comes next
pub record Tracing (parents path : List ℕ) (at steps i t : ℕ) : Type 0 where
  pub below : t ≤ steps
  pub next : (s : ℕ) → s + t ≡ steps → ancestor parents s at ≡ i
  pub written : (s u : ℕ) → t < u → s + u ≡ steps → get_or path u 0 ≡ ancestor parents s at

pub trace_start : (parents path : List ℕ) (at steps : ℕ) → Tracing parents path at steps at steps
unfolding ancestor
trace_start parents path at steps =
    record {
      below = omega arith;
      next = λ s e. let z : s ≡ 0 = omega arith in ap (λ (v : ℕ). ancestor parents v at) z;
      written = λ s u a b. absurd (omega arith);
    }

module _ {parents path : List ℕ} {at steps i t : ℕ} (h : Tracing parents path at steps i t) where
  -- with the entry of step t written
  step_written : t < length path → (s u : ℕ) → t ≤ u → s + u ≡ steps → get_or (set path t i) u 0 ≡ ancestor parents s at
  step_written room s u a x = go (ℕ_discrete u t)
    where
      go : Dec (u ≡ t) → get_or (set path t i) u 0 ≡ ancestor parents s at
      go (yes y) = ap (λ (v : ℕ). get_or (set path t i) v 0) y ∙ get_or-set_same path t i 0 room ∙ sym (h.next s (omega arith))
      go (no y) = get_or-set_other path t u i 0 y ∙ h.written s u (omega arith) x

  pub trace_more : 0 < t → t < length path → (j : ℕ) → j ≡ get_or parents i 0 → Tracing parents (set path t i) at steps j (t - 1)
  trace_more more room j e =
      record {
        below = omega (arith, h.below);
        next = λ s x. up parents (s - 1) at (omega (arith, h.below)) ∙ ap (λ (v : ℕ). get_or parents v 0) (h.next (s - 1) (omega arith)) ∙ sym e;
        written = λ s u a x. step_written room s u (omega arith) x;
      }

  module _ {n : ℕ} (ps : Parents parents n) (l : at < n) (d : Depth parents at steps) where
    pub trace_before : i ≤ at
    trace_before =
        let s = steps - t in
        omega (arith, h.next s (omega (arith, h.below)), ancestor_falls ps l s (λ u m. d.later u (omega arith)))

    pub trace_end : t ≤ 0 → t < length path → Traced parents (set path t i) n at steps
    unfolding ancestor
    trace_end z room =
        record {
          starts = is steps 0 (omega arith) ∙ d.first;
          ends = is 0 steps (omega arith);
          entry = λ u a. omega (arith, is (steps - u) u (omega arith), ancestor_falls ps l (steps - u) (λ v m. d.later v (omega arith)));
          later = λ u a b. omega (arith, is (steps - u) u (omega arith), d.later (steps - u) (omega arith));
          link = λ u a.
              ap (λ (v : ℕ). get_or parents v 0) (is (steps - u - 1) (u + 1) (omega arith))
              ∙ sym (up parents (steps - u - 1) at {m = steps - u} (omega arith)) ∙ sym (is (steps - u) u (omega arith));
        }
      where
        is : (s u : ℕ) → s + u ≡ steps → get_or (set path t i) u 0 ≡ ancestor parents s at
        is s u = step_written room s u (omega arith)

-- ---- in the cells: only the field of the way changes
pub record TracingIn (c₀ c : List (List ℕ)) (at steps i t : ℕ) : Type 0 where
  pub tracing : Tracing (column parent_field c₀) (column way_field c) at steps i t
  pub only : Only way_field c₀ c
  pub size : length c ≡ length c₀

module _ (c₀ c c' : List (List ℕ)) {at steps i t : ℕ} (h : TracingIn c₀ c at steps i t) (room : t < length c) (s : Stored way_field t i c c') where
  pub traced_more : (j : ℕ) → 0 < t → length c' ≡ length c → j ≡ get_or (column parent_field c') i 0 → TracingIn c₀ c' at steps j (t - 1)
  traced_more j more size e =
      record {
        tracing = subst (λ (q : List ℕ). Tracing (column parent_field c₀) q at steps j (t - 1)) (sym s.is)
            (trace_more h.tracing more (omega (arith, length-column way_field c)) j
            (e ∙ ap (λ (q : List ℕ). get_or q i 0) (s.other parent_field (omega arith) ∙ h.only parent_field (omega arith))));
        only = λ g n. s.other g n ∙ h.only g n;
        size = size ∙ h.size;
      }

  pub traced_all : {n : ℕ} → Parents (column parent_field c₀) n → at < n → Depth (column parent_field c₀) at steps → t ≤ 0
      → Traced (column parent_field c₀) (column way_field c') n at steps
  traced_all {n} ps l d z =
      subst (λ (q : List ℕ). Traced (column parent_field c₀) q n at steps) (sym s.is)
      (trace_end h.tracing ps l d z (omega (arith, length-column way_field c)))
