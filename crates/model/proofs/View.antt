-- A step by the view of an instruction. Two laws tie the view to the language: it makes the same step and takes the same exit.
use mathlib.Core.Path.{◌≡◌, refl}
use mathlib.Core.Bool.{true, cond}
use mathlib.Core.List.{List, [], ◌∷◌}
use mathlib.Core.Logic.{inl}
use mathlib.Core.Option.{Option, none, some}
use Prim.Native.Nat.{ℕ, ◌-◌, ◌<◌, ◌≤◌}
use native.Mathlib.Omega.{arith}
use lib.IntN.{ℤ}
use lib.Signed.{lt_z}
use lib.ListN.{get_or, set}
use Rattle.model.specs.Language.{Instruction, read, put, copy, const, less, over, under, nop, stop}
use Rattle.model.specs.Language.{Flow, instruction, Field, tape, output, variable, target, constant, fields, constants}
use Rattle.model.specs.Machine.{State, go_to, read_from, step_by, Exit, exit_if, has_record, exit_by, step, exit_of}
use Rattle.graph.specs.Lists.{In}
use Rattle.model.specs.Inner.Lists.{All}
use Rattle.model.specs.Inner.Integers.{Inside}
use Rattle.model.specs.Inner.View.{Term, held, literal, View, reads, sets, tests, goes, stops, view, view_at, term, Numbered, LegalFlow, Targeted}

-- what is left of a tape; the states after an assignment and after a read
abbrev pub on_tape : State → ℕ → List ℤ
on_tape s a = get_or s.left a []

abbrev pub lane_assigned : ℕ → ℤ → ℕ → State → State
lane_assigned v x n s = record { next = n; variables = set s.variables v x; left = s.left; ended = s.ended }

abbrev pub taken : List ℤ → (a v p m : ℕ) → State → State
taken [] a v p m s = record { next = m; variables = s.variables; left = s.left; ended = set s.ended a true }
taken (x ∷ rest) a v p m s = record { next = p; variables = set s.variables v x; left = set s.left a rest; ended = s.ended }

abbrev pub step_view : View → State → State
step_view (reads a v p m) s = taken (on_tape s a) a v p m s
step_view (sets t v n) s = lane_assigned v (term s.variables t) n s
step_view (tests x y p m) s = go_to (cond (lt_z (term s.variables x) (term s.variables y)) p m) s
step_view (goes n) s = go_to n s
step_view stops s = s

abbrev pub exit_view : View → State → Option Exit
exit_view (reads a v p m) s = some (exit_if (has_record (on_tape s a)))
exit_view (sets t v n) s = none
exit_view (tests x y p m) s = some (exit_if (lt_z (term s.variables x) (term s.variables y)))
exit_view (goes n) s = none
exit_view stops s = none

-- ---- the view makes the language's step and takes its exit
read_taken : (l : List ℤ) (a v p m : ℕ) (s : State) → read_from l a v p m s ≡ taken l (a - 1) (v - 1) p m s
read_taken [] a v p m s = refl
read_taken (x ∷ rest) a v p m s = refl

pub step_by_lem : (i : Instruction) (s : State) → step_by i s ≡ step_view (view i) s
step_by_lem (read a v p m) s = read_taken (on_tape s (a - 1)) a v p m s
step_by_lem (put v y n) s = refl
step_by_lem (copy u v n) s = refl
step_by_lem (const c v n) s = refl
step_by_lem (less u v p m) s = refl
step_by_lem (over c v p m) s = refl
step_by_lem (under v c p m) s = refl
step_by_lem (nop n) s = refl
step_by_lem stop s = refl

pub exit_by_lem : (i : Instruction) (s : State) → exit_by i s ≡ exit_view (view i) s
exit_by_lem (read a v p m) s = refl
exit_by_lem (put v y n) s = refl
exit_by_lem (copy u v n) s = refl
exit_by_lem (const c v n) s = refl
exit_by_lem (less u v p m) s = refl
exit_by_lem (over c v p m) s = refl
exit_by_lem (under v c p m) s = refl
exit_by_lem (nop n) s = refl
exit_by_lem stop s = refl

pub step-view : (flow : Flow) (s : State) → step flow s ≡ step_view (view_at flow s.next) s
step-view flow s = step_by_lem (instruction flow s.next) s

pub exit_view_lem : (flow : Flow) (s : State) → exit_of flow s ≡ exit_view (view_at flow s.next) s
exit_view_lem flow s = exit_by_lem (instruction flow s.next) s

-- ---- where a view goes on: what holds of every target among the fields holds of its targets
abbrev pub OnTarget : (ℕ → Type 0) → Field → Type 0
OnTarget P (tape a) = Unit {0}
OnTarget P (output y) = Unit {0}
OnTarget P (variable v) = Unit {0}
OnTarget P (target n) = P n
OnTarget P (constant c) = Unit {0}

pub targeted : (P : ℕ → Type 0) (i : Instruction) → All (OnTarget P) (fields i) → Targeted P (view i)
targeted P (read a v p m) (_, (_, (h, (k, _)))) = (h, k)
targeted P (put v y n) (_, (_, (h, _))) = h
targeted P (copy u v n) (_, (_, (h, _))) = h
targeted P (const c v n) (_, (_, (h, _))) = h
targeted P (less u v p m) (_, (_, (h, (k, _)))) = (h, k)
targeted P (over c v p m) (_, (_, (h, (k, _)))) = (h, k)
targeted P (under v c p m) (_, (_, (h, (k, _)))) = (h, k)
targeted P (nop n) (h, _) = h
targeted P stop h = tt

-- a term whose value a comparison may name: any variable, a constant from lo to hi
abbrev pub Known : (lo hi : ℤ) → Term → Type 0
Known lo hi (held u) = Unit {0}
Known lo hi (literal c) = Inside lo hi c

-- the same, of views
abbrev pub SoundTerm : (lo hi : ℤ) → Flow → Term → Type 0
SoundTerm lo hi flow (held u) = u < flow.variables
SoundTerm lo hi flow (literal c) = Inside lo hi c

abbrev pub SoundView : (lo hi : ℤ) → Flow → View → Type 0
SoundView lo hi flow (reads a v p m) = (a < flow.tapes) × (v < flow.variables)
SoundView lo hi flow (sets t v n) = SoundTerm lo hi flow t × (v < flow.variables)
SoundView lo hi flow (tests x y p m) = SoundTerm lo hi flow x × SoundTerm lo hi flow y
SoundView lo hi flow (goes n) = Unit {0}
SoundView lo hi flow stops = Unit {0}

pub known : (lo hi : ℤ) (flow : Flow) (t : Term) → SoundTerm lo hi flow t → Known lo hi t
known lo hi flow (held u) h = tt
known lo hi flow (literal c) h = h

lane : (n k : ℕ) → (0 < n) × (n ≤ k) → n - 1 < k
lane n k (low, high) = omega arith

sound-view : (lo hi : ℤ) (flow : Flow) (i : Instruction) → All (Numbered flow) (fields i) → ((c : ℤ) → In c (constants (fields i)) → Inside lo hi c)
    → SoundView lo hi flow (view i)
unfolding constants
sound-view lo hi flow (read a v p m) (h, (k, rest)) f = (lane a flow.tapes h, lane v flow.variables k)
sound-view lo hi flow (put v y n) h f = tt
sound-view lo hi flow (copy u v n) (h, (k, rest)) f = (lane u flow.variables h, lane v flow.variables k)
sound-view lo hi flow (const c v n) (h, (k, rest)) f = (f c (inl refl), lane v flow.variables k)
sound-view lo hi flow (less u v p m) (h, (k, rest)) f = (lane u flow.variables h, lane v flow.variables k)
sound-view lo hi flow (over c v p m) (h, (k, rest)) f = (f c (inl refl), lane v flow.variables k)
sound-view lo hi flow (under v c p m) (h, rest) f = (lane v flow.variables h, f c (inl refl))
sound-view lo hi flow (nop n) h f = tt
sound-view lo hi flow stop h f = tt

pub sound : {lo hi : ℤ} {flow : Flow} → LegalFlow lo hi flow → (i : ℕ) → SoundView lo hi flow (view_at flow i)
sound {lo} {hi} {flow} l i = sound-view lo hi flow (instruction flow i) (l.numbers i) (l.constants_inside i)
