-- `outside_row::key` meets its contract: k is the key of the ranks from the i-th on (proofs/Keys.antt). The measure is i.
use mathlib.Core.Path.{◌≡◌, ◌∙◌}
use mathlib.Core.List.{[]}
use Prim.Native.Nat.{ℕ, ◌+◌, ◌*◌, ◌-◌, ◌<◌}
use native.Mathlib.Omega.{arith}
use lib.ListN.{get_or, drop, length-drop}
use Rattle.outside_row.specs.Inner.Table.{entries_for, key_of, HasEntry}
use Rattle.outside_row.proofs.Keys.{key_below, key-end, key_more, all_drop}
use Rattle.outside_row.proofs.Entries.{listed_eight, listed_width}
use Rattle.outside_row.proofs.Ranks.{product_few, read_below, read-eight, read_number}
use Rattle.outside_row.proofs.key.Goals.{After-number, In-loop-i}
use Rattle.outside_row.proofs.key.Goals as goal

key-small : (v n i : ℕ) → HasEntry v n → key_of (drop i (get_or (entries_for v) n [])) < 4096
key-small v n i is =
    let l = get_or (entries_for v) n [] in
    key_below (drop i l) (all_drop i l (listed_eight v n is)) (omega (arith, length-drop i l, listed_width v n is, is.few))

below : (c : In-loop-i) → c.loop-i.i - 1 < c.args.v
below c = omega (arith, c.loop-i.auto.i, c.loop-i-test.true)

more : (c : After-number) → let a = c.args in 8 * c.loop-i.k + c.number.result ≡ key_of (drop (c.loop-i.i - 1) (get_or (entries_for a.v) a.n []))
more c =
    let inv = c.loop-i.invariant in
    key_more _ c.loop-i.i (c.loop-i.i - 1) _ _ (omega (arith, c.loop-i-test.true)) (omega (arith, listed_width _ _ c.requires.has_entry, below c.before.before)) inv
    (c.number.ensures ∙ read_number _ _ _ c.requires.has_entry (below c.before.before) c.args.ranks.now c.requires.ranks_value)

-- ---- the needs
pub loop-i-init : goal.loop-i-init
loop-i-init c = key-end _ _ (listed_width _ _ c.requires.has_entry)

pub overflow_mul-k : goal.overflow_mul-k
overflow_mul-k c = record { fits = omega (arith, c.loop-i.invariant, key-small _ _ c.loop-i.i c.requires.has_entry) }

pub overflow_mul-v : goal.overflow_mul-v
overflow_mul-v c = record { fits = omega (arith, product_few _ _ c.requires.has_entry) }

pub overflow_add-v : goal.overflow_add-v
overflow_add-v c = record { fits = omega (arith, product_few _ _ c.requires.has_entry, below (goal.at.overflow_add-v c).In-loop-i, c.requires.has_entry.few) }

pub bounds-ranks-v : goal.bounds-ranks-v
bounds-ranks-v c = read_below _ _ _ c.requires.has_entry (below (goal.at.bounds-ranks-v c).In-loop-i) c.args.ranks.now c.requires.ranks_value

pub number-requires : goal.number-requires
number-requires c = read-eight _ _ _ c.requires.has_entry (below (goal.at.number-requires c).In-loop-i) c.args.ranks.now c.requires.ranks_value

pub overflow_add-k : goal.overflow_add-k
overflow_add-k c = record { fits = omega (arith, more (goal.at.overflow_add-k c).After-number, key-small _ _ (c.loop-i.i - 1) c.requires.has_entry) }

pub loop-i-preserved : goal.loop-i-preserved
loop-i-preserved c = more (goal.at.loop-i-preserved c).After-number
