-- The distances that a finished table gives. An entry that stands at an instruction and takes an exit is found by as many exits as its
-- distance, and whatever is found is an entry, at no more exits. Distances never fall along the index, so that the first entry that takes
-- the exit is the nearest; if none does, no tapes take it. Of an instruction that has no exits none is ever taken.
use mathlib.Core.Path.{◌≡◌, refl, sym, ap, subst}
use mathlib.Core.Bool.{Bool, true, false, ◌&&◌}
use mathlib.Core.List.{List, ◌∷◌}
use Prim.Native.Nat.{ℕ, zero, suc, ◌<◌, ◌≤◌}
use native.Mathlib.Decide.{dec_lt}
use native.Mathlib.Omega.{arith}
use lib.IntN.{ℤ}
use lib.ListN.{length, get_or, get_or-eq_default}
use lib.Dec.{eqb}
use borrow.Author.Tests.{eqb-true, eq-eqb}
use Rattle.graph.proofs.Complete.{entry-path, path_stored}
use Rattle.graph.specs.Inner.Table.{NoneBefore}
use Rattle.model.specs.Language.{stop, Flow, instruction}
use Rattle.model.specs.Machine.{Exit}
use Rattle.model.specs.Distance.{Distance, NoDistance}
use Rattle.flow.proofs.Tests.{and_split}
use Rattle.configuration.specs.Inner.Place.{at_of}
use Rattle.configuration.specs.Inner.Op.{op_of}
use Rattle.configuration.specs.Inner.Step.{takes_of}
use Rattle.configuration.specs.declared.Op.{Op}
use Rattle.configuration.specs.declared.Words.{Words}
use Rattle.configuration.proofs.Reaches.{Finds, distance_of-words, none_of_words}
use Rattle.configuration.specs.Inner.Fits.{FlowFits}
use Rattle.std.specs.Prelude.{Option, Some, None}
use Rattle.cells.specs.Inner.Entries.{Entries, distance_of}
use Rattle.search_table.specs.Inner.Table.{words_at, table_of, Complete}
use Rattle.model.specs.Language.{has_exits}
use Rattle.model.specs.Distance.{Says}
use Rattle.search_table.specs.Inner.Passes.{Prepared, takes_at, First, FirstIs, Listed, unmet, met, Column}

both_true : (a b : Bool) → a ≡ true → b ≡ true → a && b ≡ true
both_true a b h k = rw (h, k)

module _ {lo hi : ℤ} {w : ℕ} {flow : Flow} (f : FlowFits lo hi w flow) {e : Entries} {n : ℕ} (t : Complete lo w flow e n) (i : ℕ) (x : Exit) where
  -- entry k stands at instruction i and takes exit x
  abbrev takes : ℕ → Bool
  takes = takes_at w e.places e.patterns (op_of lo (instruction flow i)) i x

  takes_finds : (k : ℕ) → k < n → takes k ≡ true → Finds f i x (distance_of e k)
  unfolding takes_at table_of
  takes_finds k l h =
      let y = words_at e k in
      let (p, q) = and_split (eqb (at_of y.place) i) (takes_of w (op_of lo (instruction flow i)) y x) h in
      let here = eqb-true (at_of y.place) i p in
      record {
        at = y;
        path = entry-path t.sound k l;
        here = here;
        takes = subst (λ (j : ℕ). takes_of w (op_of lo (instruction flow j)) y x ≡ true) (sym here) q;
      }

  finds_takes : (m : ℕ) → Finds f i x m → (k : ℕ) × (k < n) × (takes k ≡ true) × (distance_of e k ≤ m)
  unfolding takes_at table_of
  finds_takes m q =
      let s = path_stored t.sound t.closed q.path in
      let y = q.at in
      let op = op_of lo (instruction flow i) in
      let k = subst (λ (j : ℕ). takes_of w (op_of lo (instruction flow j)) y x ≡ true) q.here q.takes in (
        s.at,
        s.below,
        subst (λ (z : Words). eqb (at_of z.place) i && takes_of w op z x ≡ true) (sym s.is)
            (both_true (eqb (at_of y.place) i) (takes_of w op y x) (eq-eqb (at_of y.place) i q.here) k),
        s.near,
      )

  pub first-distance : (k : ℕ) → First takes n k → Distance flow i x (suc (distance_of e k))
  unfolding table_of
  first-distance k h = distance_of-words f i x (distance_of e k) (takes_finds k h.below h.takes_it) least
    where
      later : (j m : ℕ) → takes j ≡ true → j < n → distance_of e j ≤ m → Dec (j < k) → distance_of e k ≤ m
      later j m p l near (yes q) = absurd (h.before j q p)
      later j m p l near (no q) = omega (arith, t.sorted k j (omega arith) l)

      least : (m : ℕ) → Finds f i x m → distance_of e k ≤ m
      least m q = let (j, l, p, near) = finds_takes m q in later j m p l near (dec_lt j k)

  pub none_no_distance : NoneBefore takes n → NoDistance flow i x
  none_no_distance h = none_of_words f i x (λ m q. let (j, l, p, near) = finds_takes m q in h j l p)

  pub listed_says : (c : ℕ) → Listed takes (distance_of e) n c → Says flow i x c
  listed_says c (unmet z h) = subst (Says flow i x) (sym z) (none_no_distance h)
  listed_says c (met k h z) = let s : suc (distance_of e k) ≡ c = omega arith in subst (Says flow i x) s (first-distance k h)

-- what `nearest` finds of an exit
module _ {lo hi : ℤ} {w : ℕ} {flow : Flow} (f : FlowFits lo hi w flow) {e : Entries} {n : ℕ} (t : Complete lo w flow e n) (i : ℕ) (x : Exit) (op : Op)
    (prepared : op ≡ op_of lo (instruction flow i)) where
  abbrev found : Option ℕ → Type 0
  found r = FirstIs (takes_at w e.places e.patterns op i x) n r

  moved : (r : Option ℕ) → found r → FirstIs (takes_at w e.places e.patterns (op_of lo (instruction flow i)) i x) n r
  moved r h = subst (λ (o : Op). FirstIs (takes_at w e.places e.patterns o i x) n r) prepared h

  pub found_distance : (k : ℕ) → found (Some k) → Distance flow i x (suc (distance_of e k))
  unfolding FirstIs
  found_distance k h = first-distance f t i x k (moved (Some k) h)

  pub found_stored : (k : ℕ) → found (Some k) → k < n
  unfolding FirstIs
  found_stored k h = h.below

  -- the entry stands at the instruction and takes the exit
  pub found_takes : (k : ℕ) → found (Some k) → (at_of (words_at e k).place ≡ i) × (takes_of w op (words_at e k) x ≡ true)
  unfolding FirstIs takes_at
  found_takes k h =
      let y = words_at e k in
      let (p, q) = and_split (eqb (at_of y.place) i) (takes_of w op y x) h.takes_it in
      (eqb-true (at_of y.place) i p, q)

  pub found_nothing : found None → NoDistance flow i x
  unfolding FirstIs
  found_nothing h = none_no_distance f t i x (moved None h)

-- what a column of a finished table says of every instruction from 1 to 64
pub column_says : {lo hi : ℤ} {w : ℕ} {flow : Flow} → FlowFits lo hi w flow → {e : Entries} {n : ℕ} → Complete lo w flow e n → {ops : List Op}
    → Prepared lo flow ops → {x : Exit} {cells : List ℕ} → Column w e.places e.patterns e.distances n ops x cells
    → (i : ℕ) → i < 64 → Says flow (suc i) x (get_or cells i 0)
column_says {w = w} f {e} {n} t prepared {x} {cells} column i l =
    listed_says f t (suc i) x (get_or cells i 0)
    (subst (λ (op : Op). Listed (takes_at w e.places e.patterns op (suc i) x) (distance_of e) n (get_or cells i 0)) (prepared.each i l)
    (column.cell i l))

-- ---- instructions without exits
-- a number past the flow's last
pub past_plain : (flow : Flow) (i : ℕ) → length flow.instructions < i → has_exits (instruction flow i) ≡ false
past_plain flow i l = ap has_exits (get_or-eq_default (stop ∷ flow.instructions) stop {n = i} (omega arith))

-- a listed number is 0 where the distance is none
pub none-zero : (flow : Flow) (i : ℕ) (x : Exit) (c : ℕ) → Says flow i x c → NoDistance flow i x → c ≡ 0
none-zero flow i x zero s h = refl
none-zero flow i x (suc d) s h = absurd (h s.tapes (suc d) s.count s.takes)
