-- `render::all_exits` meets its contract: who puts the lines of the instructions from i on behind those before them puts all.
use mathlib.Core.Path.{◌≡◌}
use mathlib.Core.List.{List}
use Prim.Native.Nat.{ℕ, ◌+◌, ◌*◌, ◌-◌, ◌≤◌}
use lib.ListN.{length}
use Rattle.text.specs.Write.{ended}
use Rattle.render.specs.Report.{exit_lines_from}
use Rattle.render.specs.Inner.Writing.{Put}
use Rattle.render.proofs.all_exits.Given as goal

abbrev pub invariant-loop-i : goal.invariant-loop-i
invariant-loop-i l =
    (l.end ≤ l.at + 32 * l.i)
    × (length l.out ≡ length l.initial.out)
    × ((row : List ℕ) (r : ℕ) → Put (ended (exit_lines_from l.i (64 - l.i) l.r.two l.r.p l.r.m)) l.out l.end row r
    → Put (ended (exit_lines_from 0 64 l.r.two l.r.p l.r.m)) l.initial.out l.at row r)
