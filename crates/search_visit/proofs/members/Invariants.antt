-- `members` meets its contract. The loop keeps that the members by the records from the first to the one before y are stored.
use mathlib.Core.Path.{◌≡◌}
use Prim.Native.Nat.{◌≤◌}
use lib.ListN.{length}
use Rattle.cells.specs.Inner.Columns.{marks_field, column, columns_of}
use Rattle.cells.specs.Inner.Entries.{entries_of}
use Rattle.cells.specs.Inner.Marks.{Unmarked}
use Rattle.search_visit.specs.Inner.Visit.{Kept}
use Rattle.search_visit.specs.Inner.Fan.{Member}
use Rattle.search_visit.proofs.Fanning.{Tried, Bounds}
use Rattle.search_visit.proofs.members.Given as goal

abbrev pub invariant-loop-y : goal.invariant-loop-y
invariant-loop-y l = record {
  kept : Kept (Member l.coding.w l.v l.first) (Tried l.coding.w l.v l.first l.initial.y l.y) (entries_of (columns_of l.initial.cells)) (entries_of (columns_of l.cells))
      (columns_of l.cells).heads (columns_of l.cells).nexts l.count l.size l.d l.k l.n;
  lower : l.initial.y ≤ l.y;
  fresh : Unmarked (column marks_field l.initial.cells) (column marks_field l.cells) l.count l.n;
  size : length l.cells ≡ length l.initial.cells;
  bounds : Bounds l.coding.w l.first l.initial.y l.last;
}
