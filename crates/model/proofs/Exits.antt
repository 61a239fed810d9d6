-- Which exits a configuration has, as a test on its trial state that code can compute: of a read p while the tape has not ended, and m always;
-- of a comparison the one that its outcome takes. The test passes exactly if an edge takes the exit.
use mathlib.Core.Path.{◌≡◌, refl, sym, ap, ◌∙◌, subst}
use mathlib.Core.Bool.{Bool, true, false, not}
use mathlib.Core.List.{List, []}
use mathlib.Core.Option.{Option, none, some}
use Prim.Native.Nat.{ℕ, suc, ◌*◌}
use native.Mathlib.Omega.{arith}
use lib.IntN.{ℤ, pos}
use lib.Signed.{lt_z}
use lib.ListN.{length, get_or}
use lib.Dec.{T}
use Rattle.model.specs.Language.{Flow}
use Rattle.model.specs.Machine.{State, Exit, p_exit, m_exit, exit_if, has_record, step}
use Rattle.model.specs.Configuration.{Configuration, configuration}
use Rattle.model.proofs.Integers.{false_out}
use Rattle.model.proofs.Lists.{get_d_like}
use Rattle.model.proofs.View.{exit_view, exit_view_lem}
use Rattle.model.proofs.Side.{inside-near}
use Rattle.model.proofs.Graph.{trial, fed_with, Edge, still, fed}
use Rattle.model.specs.Inner.View.{View, reads, sets, tests, goes, stops, view_at, term, LegalFlow}

abbrev pub is_exit : Exit → Bool → Bool
is_exit p_exit b = b
is_exit m_exit b = not b

abbrev pub may_read : Exit → Bool → Bool
may_read p_exit ended = not ended
may_read m_exit ended = true

abbrev pub has_exit : View → State → Exit → Bool
has_exit (reads a v p m) s e = may_read e (get_or s.ended a false)
has_exit (sets t v n) s e = false
has_exit (tests x y p m) s e = is_exit e (lt_z (term s.variables x) (term s.variables y))
has_exit (goes n) s e = false
has_exit stops s e = false

exit_out : (e : Exit) (b : Bool) → T (is_exit e b) → some (exit_if b) ≡ some e
exit_out p_exit true h = refl
exit_out p_exit false h = absurd h
exit_out m_exit true h = absurd h
exit_out m_exit false h = refl

exit_in : (e : Exit) (b : Bool) → some (exit_if b) ≡ some e → T (is_exit e b)
exit_in p_exit true h = tt
exit_in p_exit false h = let z : ◌≡◌ {A = ℕ} 0 1 = cc in omega arith
exit_in m_exit true h = let z : ◌≡◌ {A = ℕ} 0 1 = cc in omega arith
exit_in m_exit false h = tt

m-read : (e : Exit) (b : Bool) → some m_exit ≡ some e → T (may_read e b)
m-read p_exit b h = absurd (exit_in p_exit false h)
m-read m_exit b h = tt

open_read : (e : Exit) → T (may_read e false)
open_read p_exit = tt
open_read m_exit = tt

none_in : (e : Exit) → none ≡ some e → ⊥
none_in e h = let z : ◌≡◌ {A = ℕ} 0 1 = cc in omega arith

abbrev pub takes_exit : (lo hi : ℤ) → Flow → Configuration → Exit → Bool
takes_exit lo hi flow c e = has_exit (view_at flow c.next) (trial lo hi flow c) e

module _ {lo hi : ℤ} {flow : Flow} (l : LegalFlow lo hi flow) (c : Configuration) where
  no_record : (a : ℕ) → exit_view (reads a 0 0 0) (trial lo hi flow c) ≡ some m_exit
  no_record a = ap (λ (q : List ℤ). some (exit_if (has_record q))) (get_d_like flow.tapes a [])

  pub exit-edge : (e : Exit) → T (takes_exit lo hi flow c e) → (c' : Configuration) × Edge lo hi flow c (some e) c'
  exit-edge e h = go (view_at flow c.next) refl e h
    where
      t : State
      t = trial lo hi flow c

      quiet : (w : View) → view_at flow c.next ≡ w → (e : Exit) → exit_view w t ≡ some e → (c' : Configuration) × Edge lo hi flow c (some e) c'
      quiet w i e x =
          let taken = exit_view_lem flow t ∙ ap (λ (u : View). exit_view u t) i ∙ x in
          let c' = configuration lo hi (step flow t) in
          (c', subst (λ (o : Option Exit). Edge lo hi flow c o c') taken still)

      go : (w : View) → view_at flow c.next ≡ w → (e : Exit) → T (has_exit w t e) → (c' : Configuration) × Edge lo hi flow c (some e) c'
      go (reads a v p m) i p_exit h =
          let near = inside-near (suc (2 * length c.marks)) l.zero in
          (fed_with lo hi v p (pos 0) c, fed a v p m (pos 0) i (false_out (get_or c.ended a false) h) near)
      go (reads a v p m) i m_exit h = quiet (reads a v p m) i m_exit (no_record a)
      go (sets t v n) i e h = absurd h
      go (tests x y p m) i e h = quiet (tests x y p m) i e (exit_out e (lt_z (term t.variables x) (term t.variables y)) h)
      go (goes n) i e h = absurd h
      go stops i e h = absurd h

  edge-takes : {o : Option Exit} {c' : Configuration} → Edge lo hi flow c o c' → (e : Exit) → o ≡ some e → T (takes_exit lo hi flow c e)
  edge-takes still e x = go (view_at flow c.next) (sym (exit_view_lem flow t) ∙ x)
    where
      t : State
      t = trial lo hi flow c

      go : (w : View) → exit_view w t ≡ some e → T (has_exit w t e)
      go (reads a v p m) q = m-read e (get_or c.ended a false) (sym (no_record a) ∙ q)
      go (sets t v n) q = none_in e q
      go (tests x y p m) q = exit_in e (lt_z (term t.variables x) (term t.variables y)) q
      go (goes n) q = none_in e q
      go stops q = none_in e q
  edge-takes (fed a v p m y i o near) e x = rw (i, o) (open_read e)

  pub edge-exit : {e : Exit} {c' : Configuration} → Edge lo hi flow c (some e) c' → T (takes_exit lo hi flow c e)
  edge-exit {e} k = edge-takes k e refl
