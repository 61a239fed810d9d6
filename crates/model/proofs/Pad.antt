-- Variables and tapes that a flow does not name make no difference: with more of them, a run is the run with fewer, with zeros and unread
-- tapes beside it. So distances are the same; and configurations gain lanes that always hold the same, so that there are as many.
use mathlib.Core.Path.{◌≡◌, refl, sym, ap, ap₂, ◌∙◌, subst}
use mathlib.Core.Bool.{Bool, true, false, not, cond, ◌&&◌, ◌||◌, false≢true}
use mathlib.Core.List.{List, [], ◌∷◌, ◌++◌, map}
use mathlib.Core.Option.{Option, some}
use Prim.Native.Nat.{ℕ, zero, suc, ◌+◌, ◌-◌, ◌<◌, ◌≤◌}
use native.Mathlib.Omega.{arith}
use lib.IntN.{ℤ, pos}
use lib.Signed.{lt_z}
use lib.ListN.{length, get_or, set, replicate, take, drop}
use lib.ListN.{length-append, length-replicate, take-append-drop, replicate-append-replicate, get_or-append}
use lib.Seq.{set-append_left, take_at, drop_at, length-take-le}
use Rattle.model.specs.Language.{Flow, instruction, Field, tape, output, variable, target, constant, fields}
use Rattle.model.specs.Machine.{State, Exit, exit_if, has_record, exit_of, run}
use Rattle.model.specs.Distance.{weight, exits_taken, Takes, Distance, NoDistance}
use Rattle.model.specs.Pattern.{Mark, inside, equal, among, different, mark, pattern}
use Rattle.graph.specs.Lists.{In, Census}
use Rattle.graph.proofs.Counting.{census-map}
use Rattle.model.specs.Configuration.{Configuration, configuration, Reachable}
use Rattle.model.specs.Sample.{Sample}
use Rattle.model.proofs.Integers.{zarith, false_out}
use Rattle.model.proofs.Lists.{all_weaker, in_left, map_replicate}
use Rattle.model.proofs.View.{on_tape, taken, step_view, exit_view, exit_view_lem, SoundTerm, SoundView, sound}
use Rattle.model.proofs.Side.{mark-inside}
use Rattle.model.proofs.Ranks.{equal_in, length-pattern}
use Rattle.model.proofs.Runs.{run_end, Fair, fair_run}
use Rattle.model.specs.Inner.Integers.{Inside}
use Rattle.model.specs.Inner.View.{Term, held, literal, View, reads, sets, tests, goes, stops, view_at, term, Numbered, LegalFlow}
use Rattle.model.specs.Inner.Runs.{wider}

-- ---- zeros beside the values change no rank
among_pad : (x : ℤ) (v : List ℤ) (k : ℕ) → (x ≡ pos 0 → ⊥) → among x (v ++ replicate k (pos 0)) ≡ among x v
unfolding among
among_pad x [] zero nz = refl
among_pad x [] (suc k) nz = rw (false_out (equal x (pos 0)) (lib.Dec.not_T (equal x (pos 0)) (λ h. nz (equal_in x (pos 0) h)))) (among_pad x [] k nz)
among_pad x (y ∷ v) k nz = ap (λ b. equal x y || b) (among_pad x v k nz)

different_pad : (p : ℤ → Bool) → p (pos 0) ≡ false → (v : List ℤ) (k : ℕ) → different p (v ++ replicate k (pos 0)) ≡ different p v
unfolding different
different_pad p h [] zero = refl
different_pad p h [] (suc k) = rw h (different_pad p h [] k)
different_pad p h (x ∷ v) k = ap₂ (λ (b : Bool) (n : ℕ). cond b (suc n) n) (go (p x) refl) (different_pad p h v k)
  where
    go : (b : Bool) → p x ≡ b → (b && not (among x (v ++ replicate k (pos 0)))) ≡ (b && not (among x v))
    go true e = ap not (among_pad x v k (λ q. false≢true (sym h ∙ ap p (sym q) ∙ e)))
    go false e = refl

module _ {lo hi : ℤ} (z : Inside lo hi (pos 0)) where
  mark_pad : (v : List ℤ) (k : ℕ) (x : ℤ) → mark lo hi (v ++ replicate k (pos 0)) x ≡ mark lo hi v x
  unfolding mark
  mark_pad v k x =
      let p : lt_z hi (pos 0) ≡ false = omega zarith in
      let q : lt_z (pos 0) lo ≡ false = omega zarith in
      rw (
        different_pad (λ y. lt_z hi y && not (lt_z x y)) (ap (λ b. b && not (lt_z x (pos 0))) p) v k,
        different_pad (λ y. lt_z y lo && not (lt_z y x)) (ap (λ b. b && not (lt_z (pos 0) x)) q) v k,
      )

  map-append : {A B : Type 0} (f g : A → B) → ((x : A) → f x ≡ g x) → (l m : List A) → map f (l ++ m) ≡ map g l ++ map f m
  map-append f g h [] m = refl
  map-append f g h (x ∷ l) m = ap₂ ◌∷◌ (h x) (map-append f g h l m)

  pattern_pad : (v : List ℤ) (k : ℕ) → pattern lo hi (v ++ replicate k (pos 0)) ≡ pattern lo hi v ++ replicate k (inside (pos 0))
  unfolding pattern
  pattern_pad v k =
      map-append (mark lo hi (v ++ replicate k (pos 0))) (mark lo hi v) (mark_pad v k) v (replicate k (pos 0))
      ∙ ap (λ (m : List Mark). map (mark lo hi v) v ++ m)
      (map_replicate (mark lo hi (v ++ replicate k (pos 0))) k (pos 0) (inside (pos 0)) (mark-inside lo hi (v ++ replicate k (pos 0)) (pos 0) z))

-- ---- a census, mapped one to one onto the reachable configurations of another flow
abbrev Onto : (lo hi : ℤ) (f g : Flow) (there back : Configuration → Configuration) → Type 0
Onto lo hi f g there back = (c : Configuration) → Reachable lo hi f c → Reachable lo hi g (there c) × (back (there c) ≡ c)

census_onto : (lo hi : ℤ) (f g : Flow) (there back : Configuration → Configuration) → Onto lo hi f g there back → Onto lo hi g f back there
    → (list : List Configuration) → Census (Reachable lo hi f) list → Census (Reachable lo hi g) (map there list)
census_onto lo hi f g there back a b =
    census-map there (Reachable lo hi f) (Reachable lo hi g) (λ x p. (a x p).0) (λ c r. (back c, (b c r).0, (b c r).1))
    (λ x y p q e. sym (a x p).1 ∙ ap back e ∙ (a y q).1)

-- ---- runs beside more lanes
module _ {lo hi : ℤ} {flow : Flow} (l : LegalFlow lo hi flow) (nt nv : ℕ) (more-tapes : flow.tapes ≤ nt) (more-values : flow.variables ≤ nv) where
  abbrev zeros : List ℤ
  zeros = replicate (nv - flow.variables) (pos 0)

  abbrev unmet : List Bool
  unmet = replicate (nt - flow.tapes) false

  abbrev pad : List (List ℤ) → State → State
  pad ex s = record { next = s.next; variables = s.variables ++ zeros; left = s.left ++ ex; ended = s.ended ++ unmet }

  abbrev wide : Flow
  wide = wider nt nv flow

  filled : {A : Type 0} (n m : ℕ) (a : A) → n ≤ m → replicate m a ≡ replicate n a ++ replicate (m - n) a
  filled n m a h = let e : n + (m - n) ≡ m = omega arith in sym (replicate-append-replicate n (m - n) a ∙ ap (λ (k : ℕ). replicate k a) e)

  numbered_wider : (f : Field) → Numbered flow f → Numbered wide f
  numbered_wider (tape a) (low, high) = (low, omega arith)
  numbered_wider (output y) h = tt
  numbered_wider (variable v) (low, high) = (low, omega arith)
  numbered_wider (target n) h = tt
  numbered_wider (constant c) h = tt

  pub legal-wider : LegalFlow lo hi (wider nt nv flow)
  legal-wider = record {
    zero = l.zero;
    numbers = λ i. all_weaker (Numbered flow) (Numbered wide) numbered_wider (fields (instruction flow i)) (l.numbers i);
    constants_inside = l.constants_inside;
  }

  term_pad : (t : Term) → SoundTerm lo hi flow t → (s : State) → Fair flow s → term (s.variables ++ zeros) t ≡ term s.variables t
  term_pad (held u) h s k = get_or-append s.variables zeros (pos 0) u (omega (arith, k.values-count))
  term_pad (literal c) h s k = refl

  tape_pad : (ex : List (List ℤ)) (a : ℕ) → a < flow.tapes → (s : State) → Fair flow s → get_or (s.left ++ ex) a [] ≡ on_tape s a
  tape_pad ex a h s k = get_or-append s.left ex [] a (omega (arith, k.tapes-count))

  assign_pad : (v : ℕ) (x : ℤ) → v < flow.variables → (s : State) → Fair flow s → set (s.variables ++ zeros) v x ≡ set s.variables v x ++ zeros
  assign_pad v x h s k = set-append_left s.variables zeros v x (omega (arith, k.values-count))

  taken_pad : (ex : List (List ℤ)) (t : List ℤ) (a v p m : ℕ) → a < flow.tapes → v < flow.variables → (s : State) → Fair flow s
      → taken t a v p m (pad ex s) ≡ pad ex (taken t a v p m s)
  taken_pad ex [] a v p m ha hv s k = rw (set-append_left s.ended unmet a true (omega (arith, k.ends-count)))
  taken_pad ex (x ∷ rest) a v p m ha hv s k = rw (assign_pad v x hv s k, set-append_left s.left ex a rest (omega (arith, k.tapes-count)))

  step_pad : (ex : List (List ℤ)) (w : View) → SoundView lo hi flow w → (s : State) → Fair flow s → step_view w (pad ex s) ≡ pad ex (step_view w s)
  step_pad ex (reads a v p m) h s k = rw (tape_pad ex a h.0 s k) (taken_pad ex (on_tape s a) a v p m h.0 h.1 s k)
  step_pad ex (sets t v n) h s k = rw (term_pad t h.0 s k, assign_pad v (term s.variables t) h.1 s k)
  step_pad ex (tests x y p m) h s k = rw (term_pad x h.0 s k, term_pad y h.1 s k)
  step_pad ex (goes n) h s k = refl
  step_pad ex stops h s k = refl

  exit_pad : (ex : List (List ℤ)) (w : View) → SoundView lo hi flow w → (s : State) → Fair flow s → exit_view w (pad ex s) ≡ exit_view w s
  exit_pad ex (reads a v p m) h s k = ap (λ (q : List ℤ). some (exit_if (has_record q))) (tape_pad ex a h.0 s k)
  exit_pad ex (sets t v n) h s k = refl
  exit_pad ex (tests x y p m) h s k = rw (term_pad x h.0 s k, term_pad y h.1 s k)
  exit_pad ex (goes n) h s k = refl
  exit_pad ex stops h s k = refl

  run_pad : (tapes ex : List (List ℤ)) → length tapes ≡ flow.tapes → (n : ℕ) → run wide (tapes ++ ex) n ≡ pad ex (run flow tapes n)
  run_pad tapes ex c zero = ap₂ (λ (v : List ℤ) (e : List Bool). record { next = 1; variables = v; left = tapes ++ ex; ended = e })
      (filled flow.variables nv (pos 0) more-values) (filled flow.tapes nt false more-tapes)
  run_pad tapes ex c (suc n) =
      let s = run flow tapes n in
      run_end wide (tapes ++ ex) n ∙ ap (λ (t : State). step_view (view_at flow t.next) t) (run_pad tapes ex c n)
      ∙ step_pad ex (view_at flow s.next) (sound l s.next) s (fair_run flow tapes c n) ∙ ap (pad ex) (sym (run_end flow tapes n))

  exit-run : (tapes ex : List (List ℤ)) → length tapes ≡ flow.tapes → (n : ℕ)
      → exit_of wide (run wide (tapes ++ ex) n) ≡ exit_of flow (run flow tapes n)
  exit-run tapes ex c n =
      let s = run flow tapes n in
      exit_view_lem wide (run wide (tapes ++ ex) n) ∙ ap (λ (t : State). exit_view (view_at flow t.next) t) (run_pad tapes ex c n)
      ∙ exit_pad ex (view_at flow s.next) (sound l s.next) s (fair_run flow tapes c n) ∙ sym (exit_view_lem flow s)

  exits_pad : (tapes ex : List (List ℤ)) → length tapes ≡ flow.tapes → (n : ℕ) → exits_taken wide (tapes ++ ex) n ≡ exits_taken flow tapes n
  exits_pad tapes ex c zero = refl
  exits_pad tapes ex c (suc n) = ap₂ (λ (d : ℕ) (o : Option Exit). d + weight o) (exits_pad tapes ex c n) (exit-run tapes ex c n)

  -- tapes for more lanes: unread ones are added, or all beyond the T are dropped
  abbrev unread : List (List ℤ)
  unread = replicate (nt - flow.tapes) []

  widened : (tapes : List (List ℤ)) → length tapes ≡ flow.tapes → length (tapes ++ unread) ≡ nt
  widened tapes c = omega (arith, length-append tapes unread, c, length-replicate {A = List ℤ} (nt - flow.tapes) [])

  narrowed : (tapes : List (List ℤ)) → length tapes ≡ nt → length (take flow.tapes tapes) ≡ flow.tapes
  narrowed tapes c = length-take-le flow.tapes tapes (omega (arith, c))

  split : (tapes : List (List ℤ)) (n : ℕ) → run wide (take flow.tapes tapes ++ drop flow.tapes tapes) n ≡ run wide tapes n
  split tapes n = ap (λ (ts : List (List ℤ)). run wide ts n) (take-append-drop flow.tapes tapes)

  takes_widen : (tapes : List (List ℤ)) → length tapes ≡ flow.tapes → (i : ℕ) (e : Exit) (d : ℕ) → Takes flow tapes i e d
      → Takes wide (tapes ++ unread) i e d
  takes_widen tapes c i e d t =
      let b = t.taking.before in
      record {
        step = t.step;
        taking =
            record {
              before = b;
              last = t.taking.last;
              here = ap (λ (s : State). s.next) (run_pad tapes unread c b) ∙ t.taking.here;
              exit = exit-run tapes unread c b ∙ t.taking.exit;
            };
        exits = exits_pad tapes unread c t.step ∙ t.exits;
      }

  takes_narrow : (tapes : List (List ℤ)) → length tapes ≡ nt → (i : ℕ) (e : Exit) (d : ℕ) → Takes wide tapes i e d
      → Takes flow (take flow.tapes tapes) i e d
  takes_narrow tapes c i e d t =
      let few = take flow.tapes tapes in
      let rest = drop flow.tapes tapes in
      let b = t.taking.before in
      record {
        step = t.step;
        taking =
            record {
              before = b;
              last = t.taking.last;
              here = ap (λ (s : State). s.next) (sym (run_pad few rest (narrowed tapes c) b) ∙ split tapes b) ∙ t.taking.here;
              exit = sym (exit-run few rest (narrowed tapes c) b) ∙ ap (exit_of wide) (split tapes b) ∙ t.taking.exit;
            };
        exits = sym (exits_pad few rest (narrowed tapes c) t.step)
            ∙ ap (λ (ts : List (List ℤ)). exits_taken wide ts t.step) (take-append-drop flow.tapes tapes) ∙ t.exits;
      }

  -- ---- the distances are the same
  pub distance_narrow : (i : ℕ) (e : Exit) (d : ℕ) → Distance (wider nt nv flow) i e d → Distance flow i e d
  distance_narrow i e d x = record {
    tapes = take flow.tapes x.tapes;
    count = narrowed x.tapes x.count;
    takes = takes_narrow x.tapes x.count i e d x.takes;
    least = λ other n c t. x.least (other ++ unread) n (widened other c) (takes_widen other c i e n t);
  }

  pub distance_widen : (i : ℕ) (e : Exit) (d : ℕ) → Distance flow i e d → Distance (wider nt nv flow) i e d
  distance_widen i e d x = record {
    tapes = x.tapes ++ unread;
    count = widened x.tapes x.count;
    takes = takes_widen x.tapes x.count i e d x.takes;
    least = λ other n c t. x.least (take flow.tapes other) n (narrowed other c) (takes_narrow other c i e n t);
  }

  pub none_narrow : (i : ℕ) (e : Exit) → NoDistance (wider nt nv flow) i e → NoDistance flow i e
  none_narrow i e none tapes n c t = none (tapes ++ unread) n (widened tapes c) (takes_widen tapes c i e n t)

  -- ---- a sample with more tapes is one without: of the others it holds no record
  pub sample_narrow : (i : ℕ) (e : Exit) (d : ℕ) (tapes : List (List ℤ)) → Sample lo hi (wider nt nv flow) i e d tapes
      → Sample lo hi flow i e d (take flow.tapes tapes) × (drop flow.tapes tapes ≡ replicate (nt - flow.tapes) [])
  unfolding takes_narrow
  sample_narrow i e d tapes s = (
    record {
      count = few;
      distance = distance_narrow i e d s.distance;
      takes = takes;
      used = sym (take_at own rest flow.tapes size) ∙ ap (take flow.tapes) all ∙ take_at none_left unread flow.tapes none-size;
      near = λ tape x h k. s.near tape x (subst (In tape) (take-append-drop flow.tapes tapes) (in_left (take flow.tapes tapes) rest tape h)) k;
    },
    sym (drop_at own rest flow.tapes size) ∙ ap (drop flow.tapes) all ∙ drop_at none_left unread flow.tapes none-size,
  )
    where
      few : length (take flow.tapes tapes) ≡ flow.tapes
      few = narrowed tapes s.count

      takes : Takes flow (take flow.tapes tapes) i e d
      takes = takes_narrow tapes s.count i e d s.takes

      n : ℕ
      n = takes.step

      own : List (List ℤ)
      own = (run flow (take flow.tapes tapes) n).left

      rest : List (List ℤ)
      rest = drop flow.tapes tapes

      none_left : List (List ℤ)
      none_left = replicate flow.tapes []

      size : length own ≡ flow.tapes
      size = (fair_run flow (take flow.tapes tapes) few n).tapes-count

      none-size : length none_left ≡ flow.tapes
      none-size = length-replicate {A = List ℤ} flow.tapes []

      all : own ++ rest ≡ none_left ++ unread
      all = ap (λ (t : State). t.left) (sym (run_pad (take flow.tapes tapes) rest few n) ∙ split tapes n) ∙ s.used
          ∙ filled flow.tapes nt [] more-tapes

  -- ---- and so is the number of configurations
  abbrev pub widen : Configuration → Configuration
  widen c = record { next = c.next; ended = c.ended ++ unmet; marks = c.marks ++ replicate (nv - flow.variables) (inside (pos 0)) }

  abbrev pub narrow : Configuration → Configuration
  narrow c = record { next = c.next; ended = take flow.tapes c.ended; marks = take flow.variables c.marks }

  configuration_pad : (ex : List (List ℤ)) (s : State) → configuration lo hi (pad ex s) ≡ widen (configuration lo hi s)
  configuration_pad ex s =
      ap (λ (m : List Mark). record { next = s.next; ended = s.ended ++ unmet; marks = m }) (pattern_pad l.zero s.variables (nv - flow.variables))

  -- a reachable configuration has T ends and V marks
  narrow_widen : (c : Configuration) → Reachable lo hi flow c → narrow (widen c) ≡ c
  narrow_widen c r =
      let k = fair_run flow r.tapes r.count r.n in
      ap₂ (λ (e : List Bool) (m : List Mark). record { next = c.next; ended = e; marks = m })
      (take_at c.ended unmet flow.tapes (ap (λ (d : Configuration). length d.ended) (sym r.arrives) ∙ k.ends-count))
      (take_at c.marks (replicate (nv - flow.variables) (inside (pos 0))) flow.variables
      (ap (λ (d : Configuration). length d.marks) (sym r.arrives)
      ∙ length-pattern l.zero (run flow r.tapes r.n).variables ∙ k.values-count))

  pub reachable_widen : (c : Configuration) → Reachable lo hi flow c → Reachable lo hi (wider nt nv flow) (widen c)
  reachable_widen c r = record {
    tapes = r.tapes ++ unread;
    count = widened r.tapes r.count;
    n = r.n;
    arrives = ap (configuration lo hi) (run_pad r.tapes unread r.count r.n) ∙ configuration_pad unread (run flow r.tapes r.n)
        ∙ ap widen r.arrives;
  }

  -- every reachable one with more lanes is a reachable one, widened
  pub reachable_narrow : (c : Configuration) → Reachable lo hi (wider nt nv flow) c → Reachable lo hi flow (narrow c) × (widen (narrow c) ≡ c)
  reachable_narrow c r =
      let few = take flow.tapes r.tapes in
      let rest = drop flow.tapes r.tapes in
      let s = run flow few r.n in
      let h = narrowed r.tapes r.count in
      let x : Reachable lo hi flow (configuration lo hi s) = record { tapes = few; count = h; n = r.n; arrives = refl } in
      let e : widen (configuration lo hi s) ≡ c
      = sym (configuration_pad rest s) ∙ ap (configuration lo hi) (sym (run_pad few rest h r.n) ∙ split r.tapes r.n) ∙ r.arrives in
      let f : configuration lo hi s ≡ narrow c = sym (narrow_widen (configuration lo hi s) x) ∙ ap narrow e in
      (subst (Reachable lo hi flow) f x, ap widen (sym f) ∙ e)

  pub census_narrow : (list : List Configuration) → Census (Reachable lo hi (wider nt nv flow)) list → Census (Reachable lo hi flow) (map narrow list)
  census_narrow list k = census_onto lo hi wide flow narrow widen reachable_narrow (λ c r. (reachable_widen c r, narrow_widen c r)) list k
