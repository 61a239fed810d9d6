-- The fan of a read. Its first member is visited and marked, and then its members are visited one after the other; so a read whose fan is
-- marked leads to nothing that is not stored.
use mathlib.Core.Path.{◌≡◌, refl, sym, ap, ◌∙◌, subst}
use mathlib.Core.Bool.{Bool, true, false, not}
use mathlib.Core.List.{List}
use mathlib.Core.Logic.{◌⊎◌, inl, inr}
use mathlib.Core.Option.{some}
use Rattle.std.specs.Prelude.{Option, Some, None, option_map}
use Prim.Native.Nat.{ℕ, ◌+◌, ◌<◌, ◌≤◌}
use native.Mathlib.Nat.{eq-or-lt_of_le}
use native.Mathlib.Omega.{arith}
use lib.ListN.{length}
use Rattle.model.specs.Machine.{p_exit}
use Rattle.pattern_word.specs.Inner.Pattern.{lanes, low, values_of, assign_of, first_trial, last_trial}
use Rattle.configuration.specs.Inner.Place.{words}
use Rattle.configuration.specs.Inner.Step.{ended_of, next_of, take_of, member_of}
use Rattle.pattern_word.specs.Inner.Span.{Trial}
use Rattle.configuration.specs.Inner.Graph.{WordEdge, moves, takes}
use Rattle.configuration.specs.declared.Words.{Words}
use Rattle.configuration.specs.declared.Op.{Op}
use Rattle.configuration.specs.declared.Action.{Action}
use Rattle.configuration.specs.declared.Action.TheVariants.{Read, Assign, Test, Go, Stop}
use Rattle.pattern_word.proofs.Trials.{trial_fits, trial_told}
use Rattle.configuration.proofs.Members.{member-edge, edge-closed, first-again}
use Rattle.cells.specs.Inner.Columns.{Rows}
use Rattle.cells.specs.Inner.Entries.{Entries, entries_of, Filled}
use Rattle.cells.specs.Inner.Marks.{is_marked, marking, Unmarked}
use Rattle.search_table.specs.Inner.Table.{table_of}
use Rattle.search_visit.specs.Inner.Visit.{Outgrown, Met, Kept, VisitedIs}
use Rattle.search_visit.specs.Inner.Fan.{Member, MembersIs, Marked, FreshIs, SearchReady, LeadsTo, opens_by, opens_of, InFan, FanFits, GrownIs}
use Rattle.search_visit.specs.declared.Visited.{Visited}
use Rattle.graph.proofs.Table.{grows_extends, grows_then, grows-wider}
use Rattle.search_visit.proofs.Growing.{outgrown_then, outgrown_wider, kept-none, kept_visit, outgrown_visit, met-count, kept-count}
use Rattle.search_visit.proofs.Marks.{true_false, marked-kept, marked_more}
use Rattle.graph.specs.Inner.Table.{Held}

-- ---- a read that can find a record
opens_by_lem : (op : Op) (x : Words) (a : Action) (b : Bool) → op.action ≡ a → b ≡ opens_by a op x → b ≡ opens_of op x
unfolding opens_of
opens_by_lem op x a b e h = h ∙ ap (λ (a : Action). opens_by a op x) (sym e)

not-true : (b : Bool) → not b ≡ true → b ≡ false
not-true true e = absurd (true_false (sym e))
not-true false e = refl

pub opens_read : (op : Op) (x : Words) → opens_of op x ≡ true → (op.action ≡ Read) × (ended_of x.place op.tape ≡ false)
unfolding opens_of
opens_read op x = go op.action refl
  where
    go : (a : Action) → op.action ≡ a → opens_by a op x ≡ true → (op.action ≡ Read) × (ended_of x.place op.tape ≡ false)
    go Read e h = (e, not-true (ended_of x.place op.tape) h)
    go Assign e h = absurd (true_false (sym h))
    go Test e h = absurd (true_false (sym h))
    go Go e h = absurd (true_false (sym h))
    go Stop e h = absurd (true_false (sym h))

read_opens : (op : Op) (x : Words) → op.action ≡ Read → ended_of x.place op.tape ≡ false → opens_of op x ≡ true
read_opens op x e h = sym (opens_by_lem op x Read true e (ap not (sym h)))

-- ---- the members by the records from b up to the record before y
abbrev pub Tried : (w v : ℕ) (f : Words) (b y : ℕ) (z : Words) → Type 0
Tried w v f b y z = (u : ℕ) × (b ≤ u) × (u < y) × (member_of w v f u ≡ z)

-- the first and the last record
pub record Bounds (w : ℕ) (f : Words) (b l : ℕ) : Type 0 where
  pub first : b ≡ first_trial (values_of w (lanes w f.pattern))
  pub last : l ≡ last_trial w (values_of w (lanes w f.pattern))

bounds_trial : {w : ℕ} {f : Words} {b l : ℕ} → Bounds w f b l → (y : ℕ) → b ≤ y → y ≤ l → Trial w y
bounds_trial {w} {f} k y lower upper = trial_fits w f.pattern y (omega (arith, k.first)) (omega (arith, k.last))

module _ (w v : ℕ) (f : Words) (b : ℕ) {e₀ : Entries} {count cells d k : ℕ} where
  pub members_none : {heads nexts : List ℕ} → Filled e₀ heads nexts count cells
      → Kept (Member w v f) (Tried w v f b b) e₀ e₀ heads nexts count cells d k count
  members_none filled = kept-none filled (λ z t. omega (arith, t.1, t.2))

  module _ {e : Entries} {heads nexts : List ℕ} {n : ℕ} (l : ℕ) (bounds : Bounds w f b l) (y : ℕ)
      (kept : Kept (Member w v f) (Tried w v f b y) e₀ e heads nexts count cells d k n) where
    module _ (lower : b ≤ y) (upper : y ≤ l) (q : ℕ) (is : q ≡ assign_of w f.pattern v y) where
      member : member_of w v f y ≡ words f.place q
      member = ap (words f.place) (sym is)

      wanted : Member w v f (words f.place q)
      wanted = (y, bounds_trial bounds y lower upper, member)

      pub members_more : {e' : Entries} {heads' nexts' : List ℕ} {i m : ℕ} → Met e e' heads' nexts' n cells d k (words f.place q) i m
          → Kept (Member w v f) (Tried w v f b (y + 1)) e₀ e' heads' nexts' count cells d k m
      members_more met =
          kept_visit kept (words f.place q) wanted met (Tried w v f b (y + 1))
          (λ z t. go z t (eq-or-lt_of_le (omega (arith, t.2))))
        where
          go : (z : Words) (t : Tried w v f b (y + 1) z) → (t.0 ≡ y) ⊎ (t.0 < y) → Tried w v f b y z ⊎ (z ≡ words f.place q)
          go z (u, a, h, s) (inl r) = inr (sym s ∙ ap (member_of w v f) r ∙ member)
          go z (u, a, h, s) (inr r) = inl (u, a, r, s)

      pub members_full : Outgrown (λ z. z ≡ words f.place q) d k (table_of e n) cells → Outgrown (Member w v f) d k (table_of e₀ count) cells
      members_full = outgrown_visit kept (words f.place q) wanted

    -- a member by any other record is one of them
    pub members_all : l < y → Kept (Member w v f) (Member w v f) e₀ e heads nexts count cells d k n
    members_all end = record { filled = kept.filled; grows = kept.grows; all = λ z m. kept.all z (tried z m) }
      where
        tried : (z : Words) → Member w v f z → Tried w v f b y z
        tried z (u, t, s) =
            let (r, lower, upper, same) = trial_told w f.pattern v u in
            (r, omega (arith, lower, bounds.first), omega (arith, upper, bounds.last, end), ap (words f.place) same ∙ s)

-- ---- the fan of a read that leads from x
module _ {w : ℕ} {op : Op} {x : Words} (fine : FanFits w op x) where
  abbrev f : Words
  f = take_of w op x low

  abbrev v : ℕ
  v = op.variable

  -- the first member is its own first member
  pub first_own : opens_of op x ≡ true → (f' : Words) → f' ≡ f → f'.pattern ≡ assign_of w f'.pattern v low
  unfolding take_of
  first_own o f' q =
      subst (λ (g : Words). g.pattern ≡ assign_of w g.pattern v low) (sym q)
      (sym (first-again w fine.width x.pattern v (fine.lane (opens_read op x o).0)))

  -- its members are led to
  pub member_leads : opens_of op x ≡ true → (z : Words) → Member w v f z → LeadsTo w op x z
  member_leads o z (u, tr, q) =
      let (r, e) = opens_read op x o in
      (some p_exit, subst (WordEdge w op x (some p_exit)) q (member-edge w fine.width op x fine.lane r fine.valid e u))

  -- and it is the member by the record C1
  pub first_leads : opens_of op x ≡ true → LeadsTo w op x f
  unfolding take_of
  first_leads o =
      let (r, e) = opens_read op x o in
      (some p_exit, takes low r e (record { first = omega arith; last = omega arith }))

  -- with the step that reads no record these are all
  pub leads_either : (z : Words) → LeadsTo w op x z → InFan w op x z ⊎ (z ≡ next_of w op x)
  leads_either z (l, e) =
      edge-closed w fine.width op x fine.lane (λ (y : Words). InFan w op x y ⊎ (y ≡ next_of w op x)) (inr refl)
      (λ r q u t. inl (read_opens op x r q, (u, t, refl))) e

  pub fan_lane : opens_of op x ≡ true → v < 4
  fan_lane o = fine.lane (opens_read op x o).0

  -- no record can be found
  pub fan_shut : opens_of op x ≡ false → {e : Entries} {heads nexts : List ℕ} {count cells d k : ℕ} → Filled e heads nexts count cells
      → Kept (LeadsTo w op x) (InFan w op x) e e heads nexts count cells d k count
  fan_shut s filled = kept-none filled (λ z m. true_false (sym m.0 ∙ s))

  module _ (o : opens_of op x ≡ true) {f' : Words} (q : f' ≡ f) where
    first-wanted : LeadsTo w op x f'
    first-wanted = subst (LeadsTo w op x) (sym q) (first_leads o)

    member-wanted : (z : Words) → Member w v f' z → LeadsTo w op x z
    member-wanted z m = member_leads o z (subst (λ (g : Words). Member w v g z) q m)

    member_own : (z : Words) → InFan w op x z → Member w v f' z
    member_own z m = subst (λ (g : Words). Member w v g z) (sym q) m.1

    module _ {e : Entries} {heads nexts : List ℕ} {count cells d k : ℕ} (filled : Filled e heads nexts count cells) where
      nothing : Kept (LeadsTo w op x) (λ z. ⊥) e e heads nexts count cells d k count
      nothing = kept-none filled (λ z a. a)

      -- no cell is left for the first member
      pub fan_first_full : Outgrown (λ z. z ≡ f') d k (table_of e count) cells → Outgrown (LeadsTo w op x) d k (table_of e count) cells
      fan_first_full = outgrown_visit nothing f' first-wanted

      -- the first member is entry i
      module _ {e₁ : Entries} {heads₁ nexts₁ : List ℕ} {i n : ℕ} (met : Met e e₁ heads₁ nexts₁ count cells d k f' i n) where
        begun : Kept (LeadsTo w op x) (λ z. ⊥) e e₁ heads₁ nexts₁ count cells d k n
        begun = kept_visit nothing f' first-wanted met (λ z. ⊥) (λ z a. inl a)

        -- its fan is marked
        pub fan_marked : (fans fans₁ : List ℕ) → Marked w fans (table_of e count) → Unmarked fans fans₁ count n → is_marked fans₁ i v ≡ true
            → Kept (LeadsTo w op x) (InFan w op x) e e₁ heads₁ nexts₁ count cells d k n × Marked w fans₁ (table_of e₁ n)
        unfolding table_of
        fan_marked fans fans₁ marks fresh is = (record { filled = met.filled; grows = begun.grows; all = held }, later)
          where
            later : Marked w fans₁ (table_of e₁ n)
            later = marked-kept w fans fans₁ (grows_extends begun.grows) fresh marks

            held : (z : Words) → InFan w op x z → Held (table_of e₁ n) z
            held z m =
                let (u, tr, s) = member_own z m in
                subst (Held (table_of e₁ n)) (ap (λ (g : Words). member_of w v g u) met.is ∙ s) (later i v met.below is u tr)

        -- no cell is left for a member
        pub fan_full : Outgrown (Member w v f') d k (table_of e₁ n) cells → Outgrown (LeadsTo w op x) d k (table_of e count) cells
        fan_full g = outgrown_then begun.grows (outgrown_wider member-wanted g)

        -- it gets its mark, and the fan is stored
        pub fan_all : {e₂ : Entries} {heads₂ nexts₂ : List ℕ} {m : ℕ}
            → Kept (Member w v f') (Member w v f') e₁ e₂ heads₂ nexts₂ n cells d k m
            → (fans fans₁ fans₂ : List ℕ) → Marked w fans (table_of e count) → Unmarked fans fans₁ count n → i < length fans₁
            → Unmarked (marking fans₁ i v) fans₂ n m
            → Kept (LeadsTo w op x) (InFan w op x) e e₂ heads₂ nexts₂ count cells d k m × Marked w fans₂ (table_of e₂ m)
        unfolding table_of
        fan_all kept fans fans₁ fans₂ marks fresh room fresh' = (
          record {
            filled = kept.filled;
            grows = grows_then begun.grows (grows-wider member-wanted kept.grows);
            all = λ z a. kept.all z (member_own z a);
          },
          marked_more w fans₁ fans₂ (grows_extends kept.grows) (marked-kept w fans fans₁ (grows_extends begun.grows) fresh marks) i v room fresh'
              (λ u tr. kept.all _ (u, tr, ap (λ (g : Words). member_of w v g u) (sym met.is))),
        )

  -- ---- the whole entry: the fan, and then the step that reads no record
  module _ {e e₁ : Entries} {heads nexts : List ℕ} {count cells d k n : ℕ}
      (kept : Kept (LeadsTo w op x) (InFan w op x) e e₁ heads nexts count cells d k n) (y : Words) (is : y ≡ next_of w op x) where
    next-wanted : LeadsTo w op x y
    next-wanted = (_, subst (WordEdge w op x _) (sym is) moves)

    pub expand_full : Outgrown (λ z. z ≡ y) d k (table_of e₁ n) cells → Outgrown (LeadsTo w op x) d k (table_of e count) cells
    expand_full = outgrown_visit kept y next-wanted

    pub expand_all : {e₂ : Entries} {heads₂ nexts₂ : List ℕ} {i m : ℕ} → Met e₁ e₂ heads₂ nexts₂ n cells d k y i m → (fans fans' : List ℕ)
        → Marked w fans (table_of e₁ n) → Unmarked fans fans' n m
        → Kept (LeadsTo w op x) (LeadsTo w op x) e e₂ heads₂ nexts₂ count cells d k m × Marked w fans' (table_of e₂ m)
    unfolding table_of
    expand_all met fans fans' marks fresh = (
      kept_visit kept y next-wanted met (LeadsTo w op x) (λ z l. either z (leads_either z l)),
      marked-kept w fans fans' (grows_extends met.grows) fresh marks,
    )
      where
        either : (z : Words) → InFan w op x z ⊎ (z ≡ next_of w op x) → InFan w op x z ⊎ (z ≡ y)
        either z (inl a) = inl a
        either z (inr s) = inr (s ∙ sym is)

-- ---- what `fan` answers
module _ {w : ℕ} {op : Op} {x : Words} (fine : FanFits w op x) {r : Rows} {count cells : ℕ} (ready : SearchReady w r count cells) (d k : ℕ) where
  abbrev FanIs : Rows → Option ℕ → Type 0
  FanIs r' g = GrownIs (LeadsTo w op x) (InFan w op x) w r r' count cells d k g

  -- no record can be found
  pub shut_answer : opens_of op x ≡ false → FanIs r (Some count)
  unfolding GrownIs
  shut_answer s = (fan_shut fine s ready.filled, ready.marked)

  module _ (o : opens_of op x ≡ true) {f' : Words} (q : f' ≡ take_of w op x low) where
    -- no cell is left for the first member
    pub full-answer : Outgrown (λ z. z ≡ f') d k (table_of (entries_of r) count) cells → (r' : Rows) → FanIs r' None
    unfolding GrownIs
    full-answer over r' = fan_first_full fine o q ready.filled over

    module _ {e₁ : Entries} {heads₁ nexts₁ : List ℕ} {i n : ℕ} (met : Met (entries_of r) e₁ heads₁ nexts₁ count cells d k f' i n) where
      -- the first member's mark has its place
      pub mark-room : (i < length r.fans) × (op.variable < 8)
      mark-room = (omega (arith, met.below, met.filled.index.within, ready.room), omega (arith, fan_lane fine o))

      -- the members can be visited
      pub first-ready : k < count
          → Filled e₁ heads₁ nexts₁ n cells × (k < n) × (f'.pattern ≡ assign_of w f'.pattern op.variable low)
      first-ready l = (met.filled, omega (arith, met-count met), first_own fine o f' q)

      -- the fan is marked
      pub marked-answer : (fans : List ℕ) → Unmarked r.fans fans count n → is_marked fans i op.variable ≡ true
          → FanIs (record { places = e₁.places; patterns = e₁.patterns; distances = e₁.distances; parents = e₁.parents; heads = heads₁; nexts = nexts₁; fans = fans; buckets = e₁.buckets }) (Some n)
      unfolding GrownIs
      marked-answer fans fresh is = fan_marked fine o q ready.filled met r.fans fans ready.marked fresh is

      -- the members are visited, with the mark set
      pub members_answer : (fans₁ fans₂ : List ℕ) → Unmarked r.fans fans₁ count n → length fans₁ ≡ length r.fans
          → fans₂ ≡ marking fans₁ i op.variable → (r' : Rows) (g : Option ℕ) → FreshIs fans₂ r'.fans n g
          → MembersIs w op.variable f' e₁ (entries_of r') r'.heads r'.nexts n cells d k g → FanIs r' g
      unfolding GrownIs MembersIs FreshIs
      members_answer fans₁ fans₂ fresh long set r' (Some m) fresh' kept =
          fan_all fine o q ready.filled met kept r.fans fans₁ r'.fans ready.marked fresh
          (omega (arith, mark-room.0, long)) (subst (λ (l : List ℕ). Unmarked l r'.fans n m) set fresh')
      members_answer fans₁ fans₂ fresh long set r' None fresh' over = fan_full fine o q ready.filled met over

-- ---- what `expand` answers
module _ {w : ℕ} {op : Op} {x : Words} (fine : FanFits w op x) (r r' : Rows) (count cells d k : ℕ) where
  -- no cell was left for the fan
  pub fan_answer : GrownIs (LeadsTo w op x) (InFan w op x) w r r' count cells d k None → GrownIs (LeadsTo w op x) (LeadsTo w op x) w r r' count cells d k None
  unfolding GrownIs
  fan_answer over = over

  module _ (n : ℕ) (fanned : GrownIs (LeadsTo w op x) (InFan w op x) w r r' count cells d k (Some n)) where
    -- the next words can be visited
    pub next-ready : k < count → Filled (entries_of r') r'.heads r'.nexts n cells × (k < n)
    unfolding GrownIs
    next-ready l = (fanned.0.filled, omega (arith, kept-count fanned.0))

    -- the next words are visited
    pub next-answer : {y : Words} → y ≡ next_of w op x → (r'' : Rows) (s : Option Visited) → FreshIs r'.fans r''.fans n (option_map (λ v. v.count) s)
        → VisitedIs (entries_of r') (entries_of r'') r''.heads r''.nexts n cells d k y s
        → GrownIs (LeadsTo w op x) (LeadsTo w op x) w r r'' count cells d k (option_map (λ v. v.count) s)
    unfolding GrownIs VisitedIs FreshIs
    next-answer {y} is r'' (Some s) fresh met = expand_all fine fanned.0 y is met r'.fans r''.fans fanned.1 fresh
    next-answer {y} is r'' None fresh over = expand_full fine fanned.0 y is over
