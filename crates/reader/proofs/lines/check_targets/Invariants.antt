-- `lines::check_targets` meets its contract: the targets of the lines from here on are judged as those of all.
use mathlib.Core.Path.{◌≡◌}
use mathlib.Core.List.{map}
use Prim.Native.Nat.{◌+◌}
use lib.ListN.{length, drop}
use Rattle.flow.specs.Read.{lost_target}
use Rattle.flow.specs.Inner.Rows.{instruction_of}
use Rattle.reader.proofs.lines.check_targets.Given as goal

abbrev pub invariant-loop-i : goal.invariant-loop-i
invariant-loop-i l =
    let n = length l.instructions in
    lost_target n (l.i + 2) (map instruction_of (drop l.i l.instructions)) ≡ lost_target n 2 (map instruction_of l.instructions)
