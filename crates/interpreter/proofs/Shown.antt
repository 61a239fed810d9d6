-- The loop's locals show the progress of the run: the state that they hold is the machine's but for variables and tapes that the flow does
-- not declare, and the rows and counts are as far. One turn of the loop is one step onward, and keeps this.
use mathlib.Core.Path.{◌≡◌, refl, sym, subst, ap, ap₂, ◌∙◌}
use mathlib.Core.Bool.{Bool, true, false, cond, ◌&&◌, false≢true}
use mathlib.Core.List.{List, [], ◌∷◌, ◌++◌, map, append-nil, append_assoc, map-append}
use mathlib.Core.Option.{Option, some}
use Prim.Native.Nat.{ℕ, suc, ◌+◌, ◌-◌, ◌≤◌, ◌<◌}
use native.Mathlib.Omega.{arith}
use borrow.Author.Tests.{leb-true, leb-false, le-leb, lt-leb}
use lib.Dec.{leb}
use lib.IntN.{ℤ, pos}
use lib.ListN.{length, get_or, set, drop, length-append, length-drop, length-map}
use lib.Seq.{drop-cons, set-append_seam}
use Rattle.model.specs.Language.{Instruction, instruction, fields, C1, C2}
use Rattle.model.specs.Machine.{State, value, step_by, Exit, p_exit, m_exit, exit_by, exit_of}
use Rattle.model.proofs.View.{SoundView, sound}
use Rattle.model.specs.Inner.View.{view}
use Rattle.flow.specs.Legal.{Legal}
use Rattle.flow.specs.Read.{all, is_named}
use Rattle.flow.specs.declared.Flow.{Flow as Rows}
use Rattle.flow.specs.declared.Instruction.{Instruction as Row}
use Rattle.flow.proofs.Tests.{ranges-sound}
use Rattle.interpreter.proofs.Narrow.{Narrow, same-value, narrow_step, narrow_exit}
use Rattle.interpreter.proofs.RowLaws.{putting, row-stops, row-puts, put_fits, leads_on, row_is, flow_fits}
use Rattle.flow.specs.Inner.Rows.{instruction_of, flow_of, branches}
use Rattle.interpreter.specs.declared.Onward.{Onward}
use Rattle.interpreter.specs.Inner.Arrays.{FieldsFit, count_at, held, Placed, stops, outputs, exit_when, Stepped}
use Rattle.interpreter.specs.Run.{Output, Progress, coming, puts_by, counted, onward, is_stop, fit, written}

-- one cell more of a row is written
pub written-more : {A : Type 0} (xs row : List A) (y : A)
    → length xs < length row → set (written xs row) (length xs) y ≡ written (xs ++ (y ∷ [])) row
written-more {A} xs row y h =
    ap (λ (l : List A). set (xs ++ l) (length xs) y) (drop-cons row (length xs) y h)
    ∙ set-append_seam xs (get_or row (length xs) y) (drop (suc (length xs)) row) y
    ∙ sym (ap (λ (n : ℕ). (xs ++ (y ∷ [])) ++ drop n row) one_more ∙ append_assoc xs (y ∷ []) (drop (suc (length xs)) row))
  where
    one_more : length (xs ++ (y ∷ [])) ≡ suc (length xs)
    one_more = omega (arith, length-append xs (y ∷ []))

pub length-written : {A : Type 0} (xs row : List A) → length xs ≤ length row → length (written xs row) ≡ length row
length-written xs row h = omega (arith, length-append xs (drop (length xs) row), length-drop (length xs) row)

-- a step's put, if any, in the puts done and in a row
puts_on : (b : Bool) (ps : List Output) (o : Output) → cond b (length ps + 1) (length ps) ≡ length (ps ++ cond b (o ∷ []) [])
puts_on true ps o = sym (length-append ps (o ∷ []))
puts_on false ps o = ap length (sym (append-nil ps))

few_on : (b : Bool) (n cells : ℕ) → n ≤ cells → b && leb cells n ≡ false → cond b (n + 1) n ≤ cells
few_on true n cells h e = omega (arith, leb-false cells n e)
few_on false n cells h e = h

many_on : (b : Bool) (n cells : ℕ) → b && leb cells n ≡ true → cells < cond b (n + 1) n
many_on true n cells e = omega (arith, leb-true cells n e)
many_on false n cells e = absurd (false≢true e)

row_on : {A : Type 0} (f : Output → A) (b : Bool) (ps : List Output) (o : Output) (row : List A)
    → (b ≡ true → length ps < length row)
    → cond b (set (written (map f ps) row) (length ps) (f o)) (written (map f ps) row) ≡ written (map f (ps ++ cond b (o ∷ []) [])) row
row_on {A} f true ps o row h =
    subst (λ (n : ℕ). set (written (map f ps) row) n (f o) ≡ written (map f (ps ++ (o ∷ []))) row) (length-map ps f)
    (written-more (map f ps) row (f o) (omega (arith, length-map ps f, h refl))
    ∙ ap (λ (l : List A). written l row) (sym (map-append f ps (o ∷ []))))
row_on {A} f false ps o row h = ap (λ (l : List Output). written (map f l) row) (sym (append-nil ps))

-- what a row has of a put
abbrev pub output_tape : Output → ℕ
output_tape x = x.tape

abbrev pub output_value : Output → ℤ
output_value x = x.value

-- the loop's locals
pub record Locals : Type 0 where
  pub next : ℕ
  pub variables : List ℤ
  pub at : List ℕ
  pub puts : ℕ
  pub numbers : List ℕ
  pub values : List ℤ
  pub p : List ℕ
  pub m : List ℕ

module _ (flow : Rows) (cells : ℕ) (row : List ℤ) (ends : List ℕ) (numbers₀ : List ℕ) (values₀ : List ℤ) where
  pub record Shows (r : Progress) (l : Locals) : Type 0 where
    pub state : Narrow flow.tapes flow.variables r.state (held l.next row l.variables l.at ends)
    pub named : (1 ≤ l.next) × (l.next ≤ length (flow_of flow).instructions)
    pub placed : Placed row l.at ends
    pub puts : l.puts ≡ length r.puts
    pub few : l.puts ≤ cells
    pub numbers : l.numbers ≡ written (map output_tape r.puts) numbers₀
    pub values : l.values ≡ written (map output_value r.puts) values₀
    pub p : l.p ≡ r.p
    pub m : l.m ≡ r.m

  -- what a turn of the loop does, by the row x of the next instruction: put, step, count, target
  pub record Turned (x : Row) (went : Onward) (l l' : Locals) : Type 0 where
    pub puts : l'.puts ≡ cond (outputs x.kind) (l.puts + 1) l.puts
    pub numbers : l'.numbers ≡ cond (outputs x.kind) (set l.numbers l.puts (count_at x 1)) l.numbers
    pub values : l'.values ≡ cond (outputs x.kind) (set l.values l.puts (get_or l.variables (count_at x 0 - 1) (pos 0))) l.values
    pub stepped : Stepped x row ends l.variables l.at l'.variables l'.at went
    pub p : l'.p ≡ counted (exit_when (branches x.kind) went.first) p_exit l.next l.p
    pub m : l'.m ≡ counted (exit_when (branches x.kind) went.first) m_exit l.next l.m
    pub next : l'.next ≡ went.next

  module _
      (legal : Legal (flow_of flow)) (room : (cells ≤ length numbers₀) × (cells ≤ length values₀))
      (r : Progress) (l : Locals) (shows : Shows r l) (d : Row)
    where
      abbrev x : Row
      x = get_or flow.instructions (l.next - 1) d

      abbrev w : State
      w = held l.next row l.variables l.at ends

      fit_row : FieldsFit flow.tapes flow.variables (fields (instruction_of x))
      fit_row = flow_fits flow l.next shows.named d legal

      -- it names tapes and variables of the flow
      own : SoundView (C1 (flow_of flow)) (C2 (flow_of flow)) (flow_of flow) (view (instruction_of x))
      own =
          subst (λ (i : Instruction). SoundView (C1 (flow_of flow)) (C2 (flow_of flow)) (flow_of flow) (view i)) (row_is flow l.next shows.named d)
          (sound (ranges-sound (flow_of flow) legal.ranges) l.next)

      pub coming-is : coming (flow_of flow) r ≡ instruction_of x
      coming-is = ap (instruction (flow_of flow)) shows.state.next ∙ row_is flow l.next shows.named d

      pub coming-stops : is_stop (coming (flow_of flow) r) ≡ stops x.kind
      coming-stops = ap is_stop coming-is ∙ row-stops x

      exit-is : exit_of (flow_of flow) r.state ≡ exit_by (instruction_of x) w
      unfolding flow_of
      exit-is = ap (λ (i : Instruction). exit_by i r.state) coming-is ∙ narrow_exit (flow_of flow) r.state w shows.state (C1 (flow_of flow)) (C2 (flow_of flow)) (instruction_of x) own

      puts-is : puts_by (coming (flow_of flow) r) r.state ≡ cond (outputs x.kind) (putting (count_at x 1) (value w (count_at x 0))) []
      unfolding flow_of
      puts-is =
          ap (λ (i : Instruction). puts_by i r.state) coming-is ∙ row-puts x r.state ∙ same (outputs x.kind) refl
        where
          same : (b : Bool) → outputs x.kind ≡ b
              → cond b (putting (count_at x 1) (value r.state (count_at x 0))) [] ≡ cond b (putting (count_at x 1) (value w (count_at x 0))) []
          same true e = ap (putting (count_at x 1))
              (same-value (flow_of flow) r.state w shows.state (count_at x 0 - 1) (omega (arith, put_fits x flow.tapes flow.variables e fit_row)))
          same false e = refl

      -- a put that has a free cell
      pub has_cell : outputs x.kind && leb cells l.puts ≡ false → outputs x.kind ≡ true → l.puts < cells
      has_cell free puts = leb-false cells l.puts (subst (λ (b : Bool). b && leb cells l.puts ≡ false) puts free)

      abbrev out : Output
      out = record { tape = count_at x 1; value = get_or l.variables (count_at x 0 - 1) (pos 0) }

      onward-puts : (onward (flow_of flow) r).puts ≡ r.puts ++ cond (outputs x.kind) (out ∷ []) []
      onward-puts = ap (λ (new : List Output). r.puts ++ new) puts-is

      puts-count : cond (outputs x.kind) (l.puts + 1) l.puts ≡ length (onward (flow_of flow) r).puts
      puts-count =
          ap (λ (n : ℕ). cond (outputs x.kind) (n + 1) n) shows.puts
          ∙ puts_on (outputs x.kind) r.puts out
          ∙ ap length (sym onward-puts)

      pub does_fit : outputs x.kind && leb cells l.puts ≡ false → fit (some cells) (onward (flow_of flow) r).puts ≡ true
      does_fit free =
          le-leb (length (onward (flow_of flow) r).puts) cells
          (omega (arith, puts-count, few_on (outputs x.kind) l.puts cells shows.few free))

      pub fits_not : outputs x.kind && leb cells l.puts ≡ true → fit (some cells) (onward (flow_of flow) r).puts ≡ false
      fits_not full =
          lt-leb (length (onward (flow_of flow) r).puts) cells (omega (arith, puts-count, many_on (outputs x.kind) l.puts cells full))

      -- the rows are written on
      row-after : {A : Type 0} (f : Output → A) (now new row₀ : List A)
          → now ≡ written (map f r.puts) row₀
          → cells ≤ length row₀
          → outputs x.kind && leb cells l.puts ≡ false
          → new ≡ cond (outputs x.kind) (set now l.puts (f out)) now
          → new ≡ written (map f (onward (flow_of flow) r).puts) row₀
      row-after {A} f now new row₀ is room free e =
          e
          ∙ ap₂ (λ (a : List A) (n : ℕ). cond (outputs x.kind) (set a n (f out)) a) is shows.puts
          ∙ row_on f (outputs x.kind) r.puts out row₀ (λ (h : outputs x.kind ≡ true). omega (arith, has_cell free h, shows.puts, room))
          ∙ ap (λ (ps : List Output). written (map f ps) row₀) (sym onward-puts)

      pub shows_onward : {went : Onward} {l' : Locals}
          → stops x.kind ≡ false
          → outputs x.kind && leb cells l.puts ≡ false
          → Turned x went l l'
          → Shows (onward (flow_of flow) r) l'
      unfolding flow_of
      shows_onward {went} {l'} goes free turn =
          record {
            state = subst (λ (i : Instruction). Narrow flow.tapes flow.variables (step_by i r.state) w') (sym coming-is)
                (subst (λ (u : State). Narrow flow.tapes flow.variables (step_by (instruction_of x) r.state) u) moved
                (narrow_step (flow_of flow) r.state w shows.state (C1 (flow_of flow)) (C2 (flow_of flow)) (instruction_of x) own));
            named = subst (λ (u : State). (1 ≤ u.next) × (u.next ≤ length (flow_of flow).instructions)) moved
                (leads_on (length (flow_of flow).instructions) w (instruction_of x) names shows.named);
            placed = record { places = turn.stepped.kept ∙ shows.placed.places; three = shows.placed.three; within = shows.placed.within };
            puts = turn.puts ∙ puts-count;
            few = omega (arith, turn.puts, few_on (outputs x.kind) l.puts cells shows.few free);
            numbers = row-after output_tape l.numbers l'.numbers numbers₀ shows.numbers room.0 free turn.numbers;
            values = row-after output_value l.values l'.values values₀ shows.values room.1 free turn.values;
            p = turn.p ∙ counted_as p_exit l.p r.p shows.p;
            m = turn.m ∙ counted_as m_exit l.m r.m shows.m;
          }
        where
          w' : State
          w' = held l'.next row l'.variables l'.at ends

          moved : step_by (instruction_of x) w ≡ w'
          moved = turn.stepped.state l.next ∙ ap (λ (n : ℕ). held n row l'.variables l'.at ends) (sym turn.next)

          names : all (is_named (length (flow_of flow).instructions)) (fields (instruction_of x)) ≡ true
          names =
              subst (λ (i : Instruction). all (is_named (length (flow_of flow).instructions)) (fields i) ≡ true)
              (row_is flow l.next shows.named d) (legal.targets l.next)

          counted_as : (e : Exit) (a b : List ℕ) → a ≡ b
              → counted (exit_when (branches x.kind) went.first) e l.next a ≡ counted (exit_of (flow_of flow) r.state) e r.state.next b
          counted_as e a b h =
              ap (counted (exit_when (branches x.kind) went.first) e l.next) h
              ∙ ap₂ (λ (t : Option Exit) (n : ℕ). counted t e n b) (sym (exit-is ∙ turn.stepped.exit l.next)) (sym shows.state.next)
