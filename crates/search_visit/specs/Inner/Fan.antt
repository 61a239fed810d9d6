-- What an entry leads to: the fan of a read that finds a record, and the step that reads none.
use Rattle.std.specs.Prelude.{◌≡◌, Bool, true, false, not, List, ℕ, ◌<◌, ◌≤◌, length, Option, Some, None}
use Rattle.std.proofs.Math.Option as Math
use Rattle.model.specs.Machine.{Exit}
use Rattle.flow.specs.Limits.{max_variables}
use Rattle.pattern_word.specs.Inner.Pattern.{Width, low, Valid}
use Rattle.configuration.specs.Inner.Step.{take_of, member_of, ended_of}
use Rattle.pattern_word.specs.Inner.Span.{Trial}
use Rattle.configuration.specs.Inner.Graph.{WordEdge}
use Rattle.configuration.specs.declared.Words.{Words}
use Rattle.configuration.specs.declared.Op.{Op}
use Rattle.configuration.specs.declared.Action.{Action}
use Rattle.configuration.specs.declared.Action.TheVariants.{Read, Assign, Test, Go, Stop}
use Rattle.cells.specs.Inner.Columns.{marks_field, column, Rows, columns_of}
use Rattle.cells.specs.Inner.Entries.{Entries, entries_of, Filled}
use Rattle.cells.specs.Inner.Marks.{is_marked, Unmarked}
use Rattle.search_table.specs.Inner.Table.{table_of}
use Rattle.search_visit.specs.Inner.Visit.{Outgrown, Kept}
use Rattle.graph.specs.Inner.Table.{Table, Held}

-- ---- a fan
-- the fan over v whose first member is f
abbrev pub Member : (w v : ℕ) (f y : Words) → Type 0
Member w v f y = (u : ℕ) × Trial w u × (member_of w v f u ≡ y)

unfoldable pub MembersIs : (w v : ℕ) → Words → (e e' : Entries) (heads nexts : List ℕ) (count cells d k : ℕ) → Option ℕ → Type 0
MembersIs w v f e e' heads nexts count cells d k (Some n) = Kept (Member w v f) (Member w v f) e e' heads nexts count cells d k n
MembersIs w v f e e' heads nexts count cells d k None = Outgrown (Member w v f) d k (table_of e count) cells

abbrev pub MembersIn : (w v : ℕ) → Words → (c c' : List (List ℕ)) (count cells d k : ℕ) → Option ℕ → Type 0
MembersIn w v f c c' = MembersIs w v f (entries_of (columns_of c)) (entries_of (columns_of c')) (columns_of c').heads (columns_of c').nexts

-- ---- marks
-- a mark of entry i for v says that the fan over v whose first member is entry i is stored whole; a cell with no entry may hold any marks
abbrev pub Marked : ℕ → List ℕ → Table Words → Type 0
Marked w fans t =
    (i v : ℕ) → i < t.count → is_marked fans i v ≡ true → (u : ℕ) → Trial w u → Held t (member_of w v (t.node i) u)

-- visits mark none of the entries that they add, and leave the marks of those that were there
unfoldable pub FreshIs : (fans fans' : List ℕ) (count : ℕ) → Option ℕ → Type 0
FreshIs fans fans' count (Some n) = Unmarked fans fans' count n
FreshIs fans fans' count None = Unmarked fans fans' count count

abbrev pub FreshIn : (c c' : List (List ℕ)) (count : ℕ) → Option ℕ → Type 0
FreshIn c c' = FreshIs (column marks_field c) (column marks_field c')

-- what a search keeps in the rows
pub record SearchReady (w : ℕ) (r : Rows) (count cells : ℕ) : Type 0 where
  pub filled : Filled (entries_of r) r.heads r.nexts count cells
  pub room : cells ≤ length r.fans
  pub marked : Marked w r.fans (table_of (entries_of r) count)

-- ---- what an instruction leads to
-- an edge of x leads to y
abbrev pub LeadsTo : (w : ℕ) → Op → (x y : Words) → Type 0
LeadsTo w op x y = (e : Math.Option Exit) × WordEdge w op x e y

-- whether an instruction is a read that can find a record
abbrev pub opens_by : Action → Op → Words → Bool
opens_by Read op x = not (ended_of x.place op.tape)
opens_by Assign op x = false
opens_by Test op x = false
opens_by Go op x = false
opens_by Stop op x = false

unfoldable pub opens_of : Op → Words → Bool
opens_of op x = opens_by op.action op x

-- the fan of a read
abbrev pub InFan : (w : ℕ) → Op → (x y : Words) → Type 0
InFan w op x y = (opens_of op x ≡ true) × Member w op.variable (take_of w op x low) y

-- what fans need of the instruction and the words: a read names one of four variables, and the pattern's codes are those of values
pub record FanFits (w : ℕ) (op : Op) (x : Words) : Type 0 where
  pub width : Width w
  pub lane : op.action ≡ Read → op.variable < max_variables
  pub valid : Valid w x.pattern

-- visits that keep the marks
unfoldable pub GrownIs : (S All : Words → Type 0) (w : ℕ) (r r' : Rows) (count cells d k : ℕ) → Option ℕ → Type 0
GrownIs S All w r r' count cells d k (Some n) =
    Kept S All (entries_of r) (entries_of r') r'.heads r'.nexts count cells d k n × Marked w r'.fans (table_of (entries_of r') n)
GrownIs S All w r r' count cells d k None = Outgrown S d k (table_of (entries_of r) count) cells
