-- What a new entry leaves and makes: the entries before it stay, and its own cell holds what was given.
use mathlib.Core.Path.{◌≡◌, sym, ap, ap₂, ◌∙◌, subst}
use mathlib.Core.List.{List}
use Prim.Native.Nat.{ℕ, ◌+◌, ◌≤◌, ◌<◌}
use native.Mathlib.Omega.{arith}
use lib.ListN.{length, get_or, set, length-set}
use lib.Seq.{get_or-set_same, get_or-set_other}
use Rattle.cells.specs.Cells.{cells_of}
use Rattle.cells.specs.Inner.Columns.{place_field, pattern_field, distance_field, parent_field, head_field, next_field, marks_field, bucket_field, column, word_column, Rows, columns_of, Only, Stored, Entered}
use Rattle.cells.specs.Inner.Index.{Node, node, bucket_of}
use Rattle.cells.specs.Inner.Entries.{Entries, entries_of, node_of, distance_of, parent_of, Filled, FilledIn, LatestIn, Added, BegunIn}
use Rattle.cells.proofs.Fields.{length-column, length-word-column, word-only}
use Rattle.cells.proofs.Marking.{new-unmarked}
use Rattle.cells.proofs.Insertion.{inserted, buckets-more, indexed_none}

-- a row with a store at count, before it and at it
before_store : (row row' : List ℕ) (count i v : ℕ) → row' ≡ set row count v → i < count → get_or row' i 0 ≡ get_or row i 0
before_store row row' count i v e l = ap (λ (t : List ℕ). get_or t i 0) e ∙ get_or-set_other row count i v 0 (omega arith)

at_store : (row row' : List ℕ) (count v : ℕ) → row' ≡ set row count v → count < length row → get_or row' count 0 ≡ v
at_store row row' count v e l = ap (λ (t : List ℕ). get_or t count 0) e ∙ get_or-set_same row count v 0 l

module _ {e e' : Entries} {count : ℕ} {x : Node} {d p : ℕ} (a : Added e e' count x d p) where
  pub node_stays : (i : ℕ) → i < count → node_of e' i ≡ node_of e i
  node_stays i l =
      ap₂ node (before_store e.places e'.places count i _ a.places l) (before_store e.patterns e'.patterns count i _ a.patterns l)

  pub distance_stays : (i : ℕ) → i < count → distance_of e' i ≡ distance_of e i
  distance_stays i l = before_store e.distances e'.distances count i d a.distances l

  pub parent_stays : (i : ℕ) → i < count → parent_of e' i ≡ parent_of e i
  parent_stays i l = before_store e.parents e'.parents count i p a.parents l

  module _ {heads nexts : List ℕ} {cells : ℕ} (f : Filled e heads nexts count cells) (filled-room : count < cells) where
    pub node_entered : node_of e' count ≡ x
    node_entered =
        ap₂ node (at_store e.places e'.places count _ a.places (omega (arith, f.index.place_room)))
        (at_store e.patterns e'.patterns count _ a.patterns (omega (arith, f.index.pattern_room)))

    pub distance_entered : distance_of e' count ≡ d
    distance_entered = at_store e.distances e'.distances count d a.distances (omega (arith, f.distance_room))

    pub parent_entered : parent_of e' count ≡ p
    parent_entered = at_store e.parents e'.parents count p a.parents (omega (arith, f.parent_room))

-- ---- in the cells
-- what is used is there
pub filled-room : (c : List (List ℕ)) {count size : ℕ} → FilledIn c count size → size ≤ length c
filled-room c f = omega (arith, f.index.head_room, length-column head_field c)

-- cells of which only the marks are new
pub remarked : (c c' : List (List ℕ)) → Only marks_field c c' → (P : Rows → Type 0)
    → P (record {
      places = word_column place_field c;
      patterns = word_column pattern_field c;
      distances = column distance_field c;
      parents = column parent_field c;
      heads = column head_field c;
      nexts = column next_field c;
      fans = column marks_field c';
      buckets = column bucket_field c;
    }) → P (columns_of c')
remarked c c' o P =
    subst P
    (λ i. record {
      places = sym (word-only place_field c c' o (omega arith) (omega arith)) i;
      patterns = sym (word-only pattern_field c c' o (omega arith) (omega arith)) i;
      distances = sym (o distance_field (omega arith)) i;
      parents = sym (o parent_field (omega arith)) i;
      heads = sym (o head_field (omega arith)) i;
      nexts = sym (o next_field (omega arith)) i;
      fans = column marks_field c';
      buckets = sym (o bucket_field (omega arith)) i;
    })

-- an entry in cell `count`, and the head that leads to it
module _ (c c₁ c₂ : List (List ℕ)) (count size place pattern distance parent next h : ℕ) (f : FilledIn c count size) (l : count < size)
    (b : h ≡ bucket_of (node place pattern) size) (first : LatestIn c count size h next)
    (e : Entered count place pattern distance parent next h c c₁) (s : Stored head_field h (count + 1) c₁ c₂) where
  abbrev after : Rows
  after =
      record {
        places = set (word_column place_field c) count place;
        patterns = set (word_column pattern_field c) count pattern;
        distances = set (column distance_field c) count distance;
        parents = set (column parent_field c) count parent;
        heads = set (column head_field c) h (count + 1);
        nexts = set (column next_field c) count next;
        fans = set (column marks_field c) count 0;
        buckets = set (column bucket_field c) count h;
      }

  places : word_column place_field c₂ ≡ set (word_column place_field c) count place
  places = word-only place_field c₁ c₂ s.other (omega arith) (omega arith) ∙ e.places

  patterns : word_column pattern_field c₂ ≡ set (word_column pattern_field c) count pattern
  patterns = word-only pattern_field c₁ c₂ s.other (omega arith) (omega arith) ∙ e.patterns

  distances : column distance_field c₂ ≡ set (column distance_field c) count distance
  distances = s.other distance_field (omega arith) ∙ e.distances

  parents : column parent_field c₂ ≡ set (column parent_field c) count parent
  parents = s.other parent_field (omega arith) ∙ e.parents

  heads : column head_field c₂ ≡ set (column head_field c) h (count + 1)
  heads = s.is ∙ ap (λ (t : List ℕ). set t h (count + 1)) e.heads

  nexts : column next_field c₂ ≡ set (column next_field c) count next
  nexts = s.other next_field (omega arith) ∙ e.nexts

  pub marks_added : column marks_field c₂ ≡ set (column marks_field c) count 0
  marks_added = s.other marks_field (omega arith) ∙ e.marks

  buckets : column bucket_field c₂ ≡ set (column bucket_field c) count h
  buckets = s.other bucket_field (omega arith) ∙ e.buckets

  is-after : columns_of c₂ ≡ after
  is-after =
      λ i. record {
        places = places i;
        patterns = patterns i;
        distances = distances i;
        parents = parents i;
        heads = heads i;
        nexts = nexts i;
        fans = marks_added i;
        buckets = buckets i;
      }

  pub added : Added (entries_of (columns_of c)) (entries_of (columns_of c₂)) count (node place pattern) distance parent
  added = record { places = places; patterns = patterns; distances = distances; parents = parents }

  pub filled_more : FilledIn c₂ (count + 1) size
  filled_more =
      subst (λ (r : Rows). Filled (entries_of r) r.heads r.nexts (count + 1) size) (sym is-after)
      (record {
        index = inserted _ _ _ _ _ _ _ _ _ _ f.index l b first;
        bucket =
            buckets-more (word_column place_field c) (word_column pattern_field c) (column bucket_field c) count size place pattern h f.bucket
            (omega (arith, filled-room c f, l, length-word-column place_field c)) (omega (arith, filled-room c f, l, length-word-column pattern_field c))
            (omega (arith, filled-room c f, l, length-column bucket_field c)) b;
        distance_room = simp length-set f.distance_room;
        parent_room = simp length-set f.parent_room;
      })

-- ---- the beginning
-- cells that hold anything, and no entry
pub filled_none : (c : List (List ℕ)) (size : ℕ) → 0 < size → size ≤ cells_of c → FilledIn c 0 size
filled_none c size some fits =
    record {
      index =
          indexed_none (word_column place_field c) (word_column pattern_field c) (column head_field c) (column next_field c) size some (omega arith)
          (omega (arith, length-word-column place_field c)) (omega (arith, length-word-column pattern_field c))
          (omega (arith, length-column head_field c)) (omega (arith, length-column next_field c));
      bucket = λ i l. absurd (omega arith);
      distance_room = omega (arith, length-column distance_field c);
      parent_room = omega (arith, length-column parent_field c);
    }

-- and then the start
pub begun_filled : (c c₁ : List (List ℕ)) {size : ℕ} {x : Node} → FilledIn c 0 size → 0 < size
    → Added (entries_of (columns_of c)) (entries_of (columns_of c₁)) 0 x 0 0 → FilledIn c₁ 1 size → column marks_field c₁ ≡ set (column marks_field c) 0 0 → BegunIn c₁ size x
begun_filled c c₁ empty some a filled marks =
    record {
      filled = filled;
      node = node_entered a empty some;
      distance = distance_entered a empty some;
      parent = parent_entered a empty some;
      unmarked = λ v. new-unmarked (column marks_field c) (column marks_field c₁) 0 v marks (omega (arith, filled-room c empty, length-column marks_field c));
    }
