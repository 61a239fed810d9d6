-- What a walk keeps, whatever the wishes are: the tapes lie in their parts, and all numbers stay near. From this follows all that
-- `Walk::read` asks. A read moves all tapes, puts one record more on its tape, and leaves the cells beyond the parts as they are.
use mathlib.Core.Path.{◌≡◌, refl, sym, ap, ◌∙◌, subst}
use mathlib.Core.List.{List, [], ◌∷◌, ◌++◌, map}
use Prim.Native.Nat.{ℕ, suc, ◌≤◌, ◌<◌}
use native.Mathlib.Omega.{arith}
use lib.IntN.{ℤ, pos}
use lib.ListN.{length, get_or, drop, set, length-set, length-map}
use lib.Seq.{drop-set-lt}
use Rattle.model.specs.Language.{Flow}
use Rattle.model.specs.Sample.{Near}
use Rattle.model.proofs.Integers.{zarith}
use Rattle.model.proofs.Lists.{all_get_d, all_set, all_snoc, all_map, all_weaker, map_same}
use Rattle.model.proofs.View.{SoundView, sound, known}
use Rattle.model.proofs.Side.{inside-near}
use Rattle.model.proofs.Room.{near-term}
use Rattle.model.proofs.Runs.{append}
use Rattle.model.specs.Tapes.{tapes_in, total}
use Rattle.model.specs.Inner.Lists.{All}
use Rattle.model.specs.Inner.Integers.{Inside}
use Rattle.model.specs.Inner.View.{View, reads, sets, tests, goes, stops, view_at, term, LegalFlow}
use Rattle.sample_row.specs.Inner.Moves.{moved, Movable}
use Rattle.sample_row.specs.Inner.Layout.{tapes_at, Apart, Laid}
use Rattle.sample_row.specs.Inner.Choices.{chosen, move_of, record_of}
use Rattle.sample_row.specs.Inner.Reading.{tapes_written, next_cell, roomed, walk_after, row_after, silent_after, Ready}
use Rattle.sample_row.specs.Inner.WalkFits.{WalkFits}
use Rattle.sample_row.specs.declared.Choice.{Choice}
use Rattle.sample_row.specs.declared.Choice.TheVariants.{Take, Between}
use Rattle.sample_row.specs.declared.Walk.{Walk}
use Rattle.sample_row.proofs.Bits.{nears_movable, inside_movable}
use Rattle.sample_row.proofs.Parts.{parts-length, parts-tapes, parts_behind}
use Rattle.sample_row.proofs.Sized.{laid-apart, laid_cell, laid_more, laid-few, laid-count, total-more, store_tapes, laid-tapes}
use Rattle.sample_row.proofs.ChoiceLaws.{move_near, choice_near}

-- ---- room made in the row
module _ (ss ks : List ℕ) (row : List ℤ) where
  roomed-tapes : (c : Choice) → Apart 0 ss ks (length row) → tapes_at ss ks (roomed c ss ks row) ≡ map (map (move_of c)) (tapes_at ss ks row)
  unfolding roomed move_of
  roomed-tapes (Take x) r = sym (map_same (map (λ y. y)) (map_same (λ y. y) (λ y. refl)) (tapes_at ss ks row))
  roomed-tapes (Between out m) r = parts-tapes (moved out m) 0 ss ks row r

  roomed-length : (c : Choice) → Apart 0 ss ks (length row) → length (roomed c ss ks row) ≡ length row
  unfolding roomed
  roomed-length (Take x) r = refl
  roomed-length (Between out m) r = parts-length (moved out m) 0 ss ks row r

  roomed_behind : (c : Choice) (end : ℕ) → Apart 0 ss ks end → end ≤ length row → drop end (roomed c ss ks row) ≡ drop end row
  unfolding roomed
  roomed_behind (Take x) end r n = refl
  roomed_behind (Between out m) end r n = parts_behind (moved out m) 0 end ss ks row r n

module _ {lo hi : ℤ} {sizes : List ℕ} {walk : Walk} {row : List ℤ} (fit : WalkFits lo hi sizes walk row) where
  abbrev r : ℕ
  r = total walk.counts

  apart : (n : ℕ) → total sizes ≤ n → Apart 0 walk.starts walk.counts n
  apart n h = laid-apart 0 walk.starts walk.counts sizes n fit.laid (omega arith)

  few : total walk.counts ≤ total sizes
  few = laid-few 0 walk.starts walk.counts sizes fit.laid

  counts-three : length walk.counts ≡ 3
  counts-three = laid-count 0 walk.starts walk.counts sizes fit.laid ∙ fit.three

  -- all of what `Walk::read` asks
  pub fit-ready : Inside lo hi (pos 0) → (a u : ℕ) → a < 3 → u < 4 → get_or walk.counts a 0 < get_or sizes a 0
      → Ready walk a u row × Movable lo × Movable hi
  fit-ready z a u ha hu free = (
    record {
      tape = ha;
      variable = hu;
      apart = apart (length row) fit.long;
      records = all_weaker (All (Near lo hi r)) (All Movable) (nears_movable fit.bounded r few) (tapes_written walk row) fit.near;
      values = nears_movable fit.bounded r few walk.values fit.values_near;
      cell = let n = fit.long in omega (arith, laid_cell walk.starts walk.counts sizes fit.laid a (omega (arith, fit.three)) free);
    },
    inside_movable fit.bounded r few lo (record { low = omega zarith; high = omega zarith }),
    inside_movable fit.bounded r few hi (record { low = omega zarith; high = omega zarith }),
  )

  -- all records written: the row holds the tapes one after another
  pub written_all : walk.counts ≡ sizes → tapes_written walk row ≡ tapes_in walk.counts row
  written_all e = laid-tapes 0 walk.starts walk.counts row (subst (Laid 0 walk.starts walk.counts) (sym e) fit.laid)

  -- ---- a read, of any record
  module _ (c : Choice) (a u : ℕ) (ha : a < 3) (free : get_or walk.counts a 0 < get_or sizes a 0) where
    wide : a < length walk.starts
    wide = omega (arith, fit.three)

    size : length (roomed c walk.starts walk.counts row) ≡ length row
    size = roomed-length walk.starts walk.counts row c (apart (length row) fit.long)

    pub read-tapes : tapes_written (walk_after c a u walk) (row_after c a walk row) ≡ append (map (map (move_of c)) (tapes_written walk row)) a (record_of c)
    read-tapes =
        store_tapes 0 walk.starts walk.counts sizes (roomed c walk.starts walk.counts row) (record_of c) fit.laid
        (let n = fit.long in omega (arith, size)) a wide free
        ∙ ap (λ (ts : List (List ℤ)). append ts a (record_of c)) (roomed-tapes walk.starts walk.counts row c (apart (length row) fit.long))

    pub read_length : length (row_after c a walk row) ≡ length row
    read_length = length-set (roomed c walk.starts walk.counts row) (next_cell walk a) (record_of c) ∙ size

    pub read-beyond : drop (total sizes) (row_after c a walk row) ≡ drop (total sizes) row
    read-beyond =
        drop-set-lt (total sizes) (roomed c walk.starts walk.counts row) (next_cell walk a) (record_of c)
        (laid_cell walk.starts walk.counts sizes fit.laid a wide free)
        ∙ roomed_behind walk.starts walk.counts row c (total sizes) (apart (total sizes) (omega arith)) fit.long

  -- ---- a read, whatever the wish
  pub fit-read : Inside lo hi (pos 0) → (w : List ℤ) (a u : ℕ) → a < 3 → get_or walk.counts a 0 < get_or sizes a 0
      → WalkFits lo hi sizes (walk_after (chosen lo hi w walk.values u) a u walk) (row_after (chosen lo hi w walk.values u) a walk row)
  fit-read z w a u ha free = record {
    bounded = fit.bounded;
    laid = laid_more 0 walk.starts walk.counts sizes fit.laid a free;
    long = let n = fit.long in omega (arith, read_length c a u ha free);
    near = subst (λ (n : ℕ). All (All (Near lo hi n)) (tapes_written walk' row')) (sym more)
        (subst (All (All (Near lo hi (suc r)))) (sym (read-tapes c a u ha free))
        (all_set (All (Near lo hi (suc r))) base a (get_or base a [] ++ (record_of c ∷ [])) base_near
        (all_snoc (Near lo hi (suc r)) (get_or base a []) (record_of c) (all_get_d (All (Near lo hi (suc r))) base a [] base_near tt) new)));
    values_near = subst (λ (n : ℕ). All (Near lo hi n) walk'.values) (sym more)
        (all_set (Near lo hi (suc r)) (map (move_of c) walk.values) u (record_of c) (moves-near walk.values fit.values_near) new);
    three = fit.three;
    four = length-set (map (move_of c) walk.values) u (record_of c) ∙ length-map walk.values (move_of c) ∙ fit.four;
  }
    where
      c : Choice
      c = chosen lo hi w walk.values u

      walk' : Walk
      walk' = walk_after c a u walk

      row' : List ℤ
      row' = row_after c a walk row

      more : total walk'.counts ≡ suc r
      more = total-more walk.counts a (omega (arith, counts-three))

      moves-near : (l : List ℤ) → All (Near lo hi r) l → All (Near lo hi (suc r)) (map (move_of c) l)
      moves-near = all_map (Near lo hi r) (Near lo hi (suc r)) (move_of c) (move_near z r c)

      base : List (List ℤ)
      base = map (map (move_of c)) (tapes_written walk row)

      base_near : All (All (Near lo hi (suc r))) base
      base_near = all_map (All (Near lo hi r)) (All (Near lo hi (suc r))) (map (move_of c)) moves-near (tapes_written walk row) fit.near

      new : Near lo hi (suc r) (record_of c)
      new = choice_near z r (get_or w u (pos 0)) (set w u (pos 0)) (set walk.values u (pos 0))
          (all_set (Near lo hi r) walk.values u (pos 0) fit.values_near (inside-near r z))

  -- ---- a step that reads no record
  pub fit_silent : {flow : Flow} → LegalFlow lo hi flow → (k : ℕ) → WalkFits lo hi sizes (silent_after (view_at flow k) walk) row
  fit_silent {flow} l k = go (view_at flow k) (sound l k)
    where
      go : (w : View) → SoundView lo hi flow w → WalkFits lo hi sizes (silent_after w walk) row
      go (reads a v p m) h = fit
      go (sets t v n) h = record {
        bounded = fit.bounded;
        laid = fit.laid;
        long = fit.long;
        near = fit.near;
        values_near = all_set (Near lo hi r) walk.values v (term walk.values t) fit.values_near
            (near-term l.zero r walk.values fit.values_near t (known lo hi flow t h.0));
        three = fit.three;
        four = length-set walk.values v (term walk.values t) ∙ fit.four;
      }
      go (tests x y p m) h = fit
      go (goes n) h = fit
      go stops h = fit
