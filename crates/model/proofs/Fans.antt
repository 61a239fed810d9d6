-- The edges of a read: m marks the tape as ended; p leads, with each trial record, to a configuration of the read's *fan*. Configurations that differ
-- in the variable that is read alone, or in where they stand, have one fan if they read into the same variable and go to the same instruction.
use mathlib.Core.Path.{◌≡◌, refl, sym, ap, ap₂, ◌∙◌, subst}
use mathlib.Core.Bool.{Bool, true, false}
use mathlib.Core.List.{List, []}
use mathlib.Core.Logic.{◌⊎◌, inl, inr}
use mathlib.Core.Option.{Option, some}
use Prim.Native.Nat.{ℕ, suc, ◌*◌}
use native.Mathlib.Omega.{arith}
use lib.IntN.{ℤ, pos}
use lib.ListN.{length, get_or, set}
use Rattle.model.specs.Language.{Flow}
use Rattle.model.specs.Machine.{State, Exit, p_exit, m_exit, exit_if, has_record, step}
use Rattle.model.specs.Pattern.{Mark, pattern}
use Rattle.model.specs.Configuration.{Configuration, configuration}
use Rattle.model.specs.Sample.{Near}
use Rattle.model.proofs.Lists.{get_d_like}
use Rattle.model.proofs.View.{step_view, exit_view, step-view, exit_view_lem}
use Rattle.model.proofs.Side.{spread}
use Rattle.model.proofs.Ranks.{length-pattern}
use Rattle.model.proofs.Candidates.{Spaced, spaced_spread, spaced_set, fan}
use Rattle.model.proofs.Graph.{trial, fed_with, Edge, still, fed}
use Rattle.model.specs.Inner.View.{View, reads, view_at, LegalFlow}

pub record ByP (lo hi : ℤ) (c c' : Configuration) (o : Option Exit) (a v p : ℕ) : Type 0 where
  pub exit : o ≡ some p_exit
  pub open_still : get_or c.ended a false ≡ false
  pub y : ℤ
  pub near : Near lo hi (suc (2 * length c.marks)) y
  pub goes : fed_with lo hi v p y c ≡ c'

pub record ByM (lo hi : ℤ) (flow : Flow) (c c' : Configuration) (o : Option Exit) (a m : ℕ) : Type 0 where
  pub exit : o ≡ some m_exit
  pub goes : configuration lo hi (step flow (trial lo hi flow c)) ≡ c'
  pub next : c'.next ≡ m
  pub ended : c'.ended ≡ set c.ended a true

module _ {lo hi : ℤ} {flow : Flow} where
  pub read_edges : {o : Option Exit} {c c' : Configuration} → Edge lo hi flow c o c' → (a v p m : ℕ) → view_at flow c.next ≡ reads a v p m
      → ByP lo hi c c' o a v p ⊎ ByM lo hi flow c c' o a m
  read_edges {c = c} still a v p m i = inr (record {
    exit = exit_view_lem flow t ∙ ap (λ (w : View). exit_view w t) i ∙ ap (λ (q : List ℤ). some (exit_if (has_record q))) (get_d_like flow.tapes a []);
    goes = refl;
    next = ap (λ (s : State). s.next) after;
    ended = ap (λ (s : State). s.ended) after;
  })
    where
      t : State
      t = trial lo hi flow c

      after : step flow t ≡ record { next = m; variables = t.variables; left = t.left; ended = set t.ended a true }
      after = step-view flow t ∙ ap (λ (w : View). step_view w t) i ∙ rw (get_d_like {A = List ℤ} flow.tapes a []) refl
  read_edges {c = c} (fed b w q n y j o near) a v p m i =
      let k : reads a v p m ≡ reads b w q n = sym i ∙ j in
      let ea : b ≡ a = cc in
      let ev : w ≡ v = cc in
      let ep : q ≡ p = cc in
      inl (record {
        exit = refl;
        open_still = subst (λ (d : ℕ). get_or c.ended d false ≡ false) ea o;
        y = y;
        near = near;
        goes = ap₂ (λ (r s : ℕ). fed_with lo hi r s y c) (sym ev) (sym ep);
      })

-- the marks are the pattern of some values: so it is where a run arrives
pub record Proper (lo hi : ℤ) (c : Configuration) : Type 0 where
  pub values : List ℤ
  pub marks : pattern lo hi values ≡ c.marks

module _ {lo hi : ℤ} {flow : Flow} (l : LegalFlow lo hi flow) where
  pub proper_spaced : (c : Configuration) → Proper lo hi c → Spaced l.zero (length c.marks) (spread lo hi c.marks)
  proper_spaced c q =
      let w = pattern lo hi q.values in
      let own = subst (λ (n : ℕ). Spaced l.zero n (spread lo hi w)) (sym (length-pattern l.zero q.values)) (spaced_spread l.zero q.values) in
      subst (λ (m : List Mark). Spaced l.zero (length m) (spread lo hi m)) q.marks own

  -- c and d read into v and go on to p, with the same tapes ended and, v set to 0, the same pattern: every p of c leads where a p of d leads
  pub fan_edge : (c d c' : Configuration) (a b v p m n : ℕ) → view_at flow c.next ≡ reads a v p m → view_at flow d.next ≡ reads b v p n
      → c.ended ≡ d.ended
      → pattern lo hi (set (spread lo hi c.marks) v (pos 0)) ≡ pattern lo hi (set (spread lo hi d.marks) v (pos 0))
      → Proper lo hi d → get_or d.ended b false ≡ false → Edge lo hi flow c (some p_exit) c' → Edge lo hi flow d (some p_exit) c'
  fan_edge c d c' a b v p m n i j ends e q o x = go (read_edges x a v p m i)
    where
      sv : List ℤ
      sv = spread lo hi d.marks

      go : ByP lo hi c c' (some p_exit) a v p ⊎ ByM lo hi flow c c' (some p_exit) a m → Edge lo hi flow d (some p_exit) c'
      go (inr f) = let bad = f.exit in let z : ◌≡◌ {A = ℕ} 0 1 = cc in absurd (omega arith)
      go (inl f) =
          let (y, near, same) = fan l.zero (spread lo hi c.marks) sv v (length d.marks) (pos 0) e
          (spaced_set l.zero (length d.marks) sv v (pos 0) l.zero (proper_spaced d q)) f.y in
          let goes = ap₂ (λ (t : List Bool) (k : List Mark). record { next = p; ended = t; marks = k }) (sym ends) (sym same) ∙ f.goes in
          subst (Edge lo hi flow d (some p_exit)) goes (fed b v p n y j o near)
