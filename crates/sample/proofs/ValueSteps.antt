-- What a step on words does to the values. A step reads a record exactly if its tape has not ended where it leads: the step by which a read
-- finds none ends the tape, and that by which it finds one changes no end. A step that reads none changes the values as its instruction says;
-- one that reads a record is given the spread of the pattern to which it leads as its wish.
use mathlib.Core.Path.{◌≡◌, refl, sym, ap, ap₂, ◌∙◌, subst}
use mathlib.Core.Bool.{Bool, true, false, not, ◌&&◌}
use mathlib.Core.List.{List, [], ◌∷◌, map}
use mathlib.Core.Logic.{inl}
use mathlib.Core.Option.{Option, some}
use Prim.Native.Nat.{ℕ, ◌<◌}
use native.Mathlib.Omega.{arith}
use lib.IntN.{ℤ, pos, ◌+ℤ◌}
use lib.ListN.{get_or, set, take}
use lib.Seq.{get_or-set_same, take_all}
use borrow.Author.Tests.{lt-ltb, le-ltb}
use Rattle.graph.specs.Lists.{In}
use Rattle.model.specs.Language.{Instruction, Flow, instruction, fields, constants}
use Rattle.model.specs.Machine.{Exit, p_exit}
use Rattle.model.specs.Pattern.{pattern}
use Rattle.model.proofs.Integers.{zarith, add_pos}
use Rattle.model.proofs.View.{SoundView, sound, SoundTerm}
use Rattle.model.proofs.Pad.{legal-wider}
use Rattle.model.specs.Inner.Integers.{Inside}
use Rattle.model.specs.Inner.View.{Term, held, literal, View, reads, view_at, term}
use Rattle.model.specs.Inner.Runs.{wider}
use Rattle.sample_row.specs.Inner.Reading.{silent_values, silent_after}
use Rattle.sample_row.specs.declared.Walk.{Walk}
use Rattle.sample_row.proofs.Followed.{SilentStep}
use Rattle.pattern_word.specs.Inner.Pattern.{max_width, lanes, values_of}
use Rattle.configuration.specs.Inner.Place.{at_of, ends_of, go_of, finish_of, configuration_of}
use Rattle.constants.specs.Inner.Constants.{offset}
use Rattle.configuration.specs.Inner.Op.{op_of}
use Rattle.configuration.specs.Inner.Step.{ended_of, next_by, next_of, take_of, word_exit_of}
use Rattle.configuration.specs.Inner.Graph.{WordEdge, moves, takes, op_at}
use Rattle.configuration.specs.declared.Words.{Words}
use Rattle.configuration.specs.declared.Op.{Op}
use Rattle.configuration.specs.declared.Action.{Action}
use Rattle.configuration.specs.declared.Action.TheVariants.{Read, Assign, Test, Go, Stop}
use Rattle.pattern_word.proofs.Span.{inside-real}
use Rattle.constants.proofs.Offsets.{offset-is}
use Rattle.pattern_word.proofs.FourLanes.{length_values_of}
use Rattle.configuration.proofs.Prepared.{op_constant}
use Rattle.configuration.proofs.Places.{ends_go, ends_finish, length-ends}
use Rattle.configuration.proofs.Means.{Names, Means, means_reads, means_sets, means_tests, means_goes, means_stops, means, read_view}
use Rattle.configuration.proofs.Steps.{spread_words, marks_stay}
use Rattle.pattern_word.specs.Inner.Span.{real}
use Rattle.configuration.specs.Inner.Fits.{FlowFits, ProperWords}
use Rattle.search_table.specs.Inner.Way.{is_read}
use Rattle.sample.specs.Inner.Steps.{wish_of, takes_record, term_in, values_by, quiet_walk, OpFits}

-- a flow fits with four variables and three tapes too
pub fit-wider : {lo hi : ℤ} {w : ℕ} {flow : Flow} → FlowFits lo hi w flow → FlowFits lo hi w (wider 3 4 flow)
fit-wider f = record {
  span = f.span;
  legal = legal-wider f.legal 3 4 f.tapes f.variables;
  tapes = omega arith;
  variables = omega arith;
  targets = f.targets;
}

-- ---- whether a step reads a record
never : {A : Type 0} → false ≡ true → A
never h = let z : ◌≡◌ {A = ℕ} 0 1 = cc in absurd (omega arith)

go_ended : (place n a : ℕ) → ended_of (go_of place n) a ≡ ended_of place a
unfolding ended_of
go_ended place n a = ap (λ (l : List Bool). get_or l a false) (ends_go place n)

finish_ended : (place n a : ℕ) → a < 3 → ended_of (finish_of place a n) a ≡ true
unfolding ended_of
finish_ended place n a h =
    ap (λ (l : List Bool). get_or l a false) (ends_finish place a n)
    ∙ get_or-set_same (ends_of place) a true false (omega (arith, length-ends place))

module _ (w : ℕ) (o : Op) (x : Words) where
  moves-none : o.tape < 3 → takes_record o (next_of w o x) ≡ false
  unfolding takes_record next_of
  moves-none h = go o.action
    where
      go : (a : Action) → (is_read a && not (ended_of (next_by a w o x).place o.tape)) ≡ false
      go Read = ap not (finish_ended x.place o.m o.tape h)
      go Assign = refl
      go Test = refl
      go Go = refl
      go Stop = refl

  takes_record_lem : (y : ℕ) → o.action ≡ Read → ended_of x.place o.tape ≡ false → takes_record o (take_of w o x y) ≡ true
  unfolding takes_record take_of
  takes_record_lem y r q = ap₂ (λ (a : Action) (b : Bool). is_read a && not b) r (go_ended x.place o.p o.tape ∙ q)

-- ---- a prepared instruction of the flow names its own
module _ {lo hi : ℤ} {w : ℕ} {flow : Flow} (f : FlowFits lo hi w flow) where
  small : (c : ℤ) → Inside lo hi c → offset c lo < max_width
  small c h = let few = f.span.width.few in omega (arith, (inside-real f.span c h).0)

  lane-small : (v : ℕ) → v < flow.variables → v < 4
  lane-small v h = let few = f.variables in omega arith

  plain : (v : ℕ) (o : Op) → o.tape ≡ 0 → o.variable ≡ v → v < 4 → o.constant < max_width → OpFits o
  plain v o a b h k = record { tape = omega arith; variable = omega arith; constant = k }

  fine : (o : Op) (v : View) → Means lo o v → SoundView lo hi flow v → o.constant < max_width → OpFits o
  fine o v (means_reads a u p m) h k = let few = f.tapes in record { tape = omega (arith, h.0); variable = lane-small u h.1; constant = k }
  fine o v (means_sets t u n i c e) h k = plain u o refl refl (lane-small u h.1) k
  fine o v (means_tests s t p m i j c e e') h k = plain 0 o refl refl (omega arith) k
  fine o v (means_goes n) h k = plain 0 o refl refl (omega arith) k
  fine o v means_stops h k = plain 0 o refl refl (omega arith) k

  constant-small : (i : Instruction) → ((c : ℤ) → In c (constants (fields i)) → Inside lo hi c) → (op_of lo i).constant < max_width
  constant-small i h = rw (op_constant lo i) (by (constants (fields i)) h)
    where
      by : (cs : List ℤ) → ((c : ℤ) → In c cs → Inside lo hi c) → get_or (map (λ c. offset c lo) cs) 0 0 < max_width
      by [] g = omega arith
      by (c ∷ cs) g = small c (g c (inl refl))

  pub op_fine : (x : Words) → OpFits (op_at lo flow x)
  op_fine x =
      let i = at_of x.place in
      fine (op_at lo flow x) (view_at flow i) (means lo (instruction flow i)) (sound f.legal i) (constant-small (instruction flow i) (f.legal.constants_inside i))

  -- ---- the values after a step that reads no record
  term_is : (o : Op) (u : ℕ) (t : Term) → Names lo u o.constant t → SoundTerm lo hi flow t → (l : List ℤ) → term_in lo o l u ≡ term l t
  unfolding term_in
  term_is o u (held i) e h l = rw (lt-ltb u 4 (let few = f.variables in omega arith)) (ap (λ (j : ℕ). get_or l j (pos 0)) e)
  term_is o u (literal d) (four, e) h l =
      rw (le-ltb u 4 four) (ap (λ (j : ℕ). lo +ℤ pos j) e ∙ omega (zarith, add_pos lo (offset d lo), offset-is d lo h.low))

  values_by_lem : (o : Op) (v : View) → Means lo o v → SoundView lo hi flow v → (l : List ℤ) → values_by o.action lo o l ≡ silent_values v l
  values_by_lem o v (means_reads a u p m) h l = refl
  values_by_lem o v (means_sets t u n j c k) h l = ap (set l u) (term_is o j t k h.0 l)
  values_by_lem o v (means_tests s t p m u u' c k k') h l = refl
  values_by_lem o v (means_goes n) h l = refl
  values_by_lem o v means_stops h l = refl

  pub quiet_silent : (x : Words) (walk : Walk) → quiet_walk lo (op_at lo flow x) walk ≡ silent_after (view_at flow (at_of x.place)) walk
  unfolding quiet_walk
  quiet_silent x walk =
      let i = at_of x.place in
      let e = values_by_lem (op_at lo flow x) (view_at flow i) (means lo (instruction flow i)) (sound f.legal i) walk.values in
      λ j. record { values = e j; counts = walk.counts; starts = walk.starts }

  -- ---- an edge by whether it reads a record
  module _ (x : Words) where
    abbrev o : Op
    o = op_at lo flow x

    -- a read: its view, and that its tape is one of the flow's
    module _ (r : o.action ≡ Read) where
      pub read_is : view_at flow (at_of x.place) ≡ reads o.tape o.variable o.p o.m
      read_is = read_view lo o (view_at flow (at_of x.place)) (means lo (instruction flow (at_of x.place))) r

      pub read_own : o.tape < flow.tapes
      read_own = (subst (SoundView lo hi flow) read_is (sound f.legal (at_of x.place))).0

    pub edge_record : {e : Option Exit} {x' : Words} → WordEdge w o x e x' → takes_record o x' ≡ true
        → (e ≡ some p_exit) × (o.action ≡ Read) × (ended_of x.place o.tape ≡ false)
    edge_record moves h = never (sym (moves-none w o x (op_fine x).tape) ∙ h)
    edge_record (takes y r q t) h = (refl, r, q)

    exit_silent : (p : Op) (v : View) → Means lo p v → SilentStep v (word_exit_of w p x)
    unfolding word_exit_of
    exit_silent p v (means_reads a u n m) = refl
    exit_silent p v (means_sets t u n j c k) = tt
    exit_silent p v (means_tests s t n m u u' c k k') = tt
    exit_silent p v (means_goes n) = tt
    exit_silent p v means_stops = tt

    pub moves_silent : SilentStep (view_at flow (at_of x.place)) (word_exit_of w o x)
    moves_silent = exit_silent o (view_at flow (at_of x.place)) (means lo (instruction flow (at_of x.place)))

    pub edge_silent : {e : Option Exit} {x' : Words} → WordEdge w o x e x' → takes_record o x' ≡ false → SilentStep (view_at flow (at_of x.place)) e
    edge_silent moves h = moves_silent
    edge_silent (takes y r q t) h = never (sym h ∙ takes_record_lem w o x y r q)

-- ---- the wish, with four variables
module _ {lo hi : ℤ} {w : ℕ} (flow : Flow) (f : FlowFits lo hi w (wider 3 4 flow)) (x : Words) (k : ProperWords lo w (wider 3 4 flow) x) where
  pub wish_marks : pattern lo hi (wish_of lo w x.pattern) ≡ (configuration_of lo w (wider 3 4 flow) x).marks
  unfolding wish_of configuration_of
  wish_marks =
      let all : take 4 (values_of w (lanes w x.pattern)) ≡ values_of w (lanes w x.pattern)
      = take_all 4 (values_of w (lanes w x.pattern)) (omega (arith, length_values_of w x.pattern)) in
      ap (λ (l : List ℕ). pattern lo hi (map (real lo) l)) (sym all) ∙ ap (pattern lo hi) (sym (spread_words f x k)) ∙ marks_stay f x k
