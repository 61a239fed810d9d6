-- `text::end_of` meets its contract: the search of the slice and `until` stop at the same byte.
use mathlib.Core.Path.{◌≡◌, ap}
use mathlib.Core.List.{List}
use Prim.Native.Nat.{ℕ, ◌-◌, ◌<◌}
use native.Mathlib.Omega.{arith}
use lib.ListN.{length, drop, take, length-drop}
use lib.Seq.{take_all}
use Rattle.std.proofs.Common.{rules}
use Rattle.text.proofs.Parts.{until_is, until_none}
use Rattle.text.proofs.end_of.Goals as goal

-- the slice from a place on, as the code takes it
abbrev rest : List ℕ → ℕ → List ℕ
rest s i = take (length s - i) (drop i s)

rest-is : (s : List ℕ) (i : ℕ) → rest s i ≡ drop i s
rest-is s i = take_all (length s - i) (drop i s) (simp length-drop (omega arith))

pub returns-in-Some : goal.returns-in-Some
returns-in-Some c =
    let here = until_is c.args.byte (rest c.args.text.now c.args.from) c.in-Some.i (search rules) (search rules) (search rules) in
    let same = rest-is c.args.text.now c.args.from in
    let inside : c.in-Some.i < length (rest c.args.text.now c.args.from) = search rules in
    rw (← same, here) (omega (arith, simp length-drop at (ap length same)))

pub returns-in-None : goal.returns-in-None
returns-in-None c =
    let none = until_none c.args.byte (rest c.args.text.now c.args.from) (search rules) in
    let same = rest-is c.args.text.now c.args.from in
    rw (← same, none) (omega arith)
