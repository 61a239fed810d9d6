-- The columns of a row of cells. What is stored in a field of a cell is stored in that field's column, and the other columns are as they were.
use mathlib.Core.Path.{◌≡◌, refl, sym, ap, ap₂, ◌∙◌}
use mathlib.Core.List.{List, [], ◌∷◌, map}
use Prim.Native.Nat.{ℕ, zero, suc, ◌+◌, ◌*◌, ◌/◌, ◌%◌, ◌<◌}
use native.Mathlib.Omega.{arith}
use lib.ListN.{length, get_or, set, length-map, get_or-map}
use lib.Seq.{get_or-set_same, get_or-set_other, map-set_same, ext_get_or}
use Rattle.cells.specs.Cells.{cell_words}
use Rattle.cells.specs.Inner.Columns.{half, place_field, pattern_field, distance_field, parent_field, head_field, next_field, marks_field, bucket_field, column, word_column, Only, Stored, Entered}

-- ---- a function on each element
map-set : (f : List ℕ → ℕ) (l : List (List ℕ)) (i : ℕ) (y : List ℕ) → map f (set l i y) ≡ set (map f l) i (f y)
map-set f [] i y = refl
map-set f (x ∷ l) zero y = refl
map-set f (x ∷ l) (suc i) y = ap (λ (t : List ℕ). f x ∷ t) (map-set f l i y)

-- ---- columns
pub length-column : (f : ℕ) (c : List (List ℕ)) → length (column f c) ≡ length c
unfolding column
length-column f c = length-map c (λ x. get_or x f 0)

pub column-long : (f : ℕ) (c c' : List (List ℕ)) → length c' ≡ length c → length (column f c') ≡ length (column f c)
column-long f c c' e = length-column f c' ∙ e ∙ sym (length-column f c)

pub length-word-column : (f : ℕ) (c : List (List ℕ)) → length (word_column f c) ≡ length c
unfolding word_column
length-word-column f c = length-map c (λ x. get_or x f 0 + get_or x (f + 1) 0 * half)

pub column-at : (f : ℕ) (c : List (List ℕ)) (i : ℕ) → get_or (column f c) i 0 ≡ get_or (get_or c i []) f 0
unfolding column
column-at f c i = get_or-map (λ x. get_or x f 0) c i []

pub word-column-at : (f : ℕ) (c : List (List ℕ)) (i : ℕ) → get_or (word_column f c) i 0 ≡ get_or (get_or c i []) f 0 + get_or (get_or c i []) (f + 1) 0 * half
unfolding word_column
word-column-at f c i = get_or-map (λ x. get_or x f 0 + get_or x (f + 1) 0 * half) c i []

module _ (c : List (List ℕ)) (i : ℕ) (x : List ℕ) where
  column-set : (f : ℕ) → column f (set c i x) ≡ set (column f c) i (get_or x f 0)
  unfolding column
  column-set f = map-set (λ y. get_or y f 0) c i x

  word-column-set : (f : ℕ) → word_column f (set c i x) ≡ set (word_column f c) i (get_or x f 0 + get_or x (f + 1) 0 * half)
  unfolding word_column
  word-column-set f = map-set (λ y. get_or y f 0 + get_or y (f + 1) 0 * half) c i x

  column-same : (f : ℕ) → get_or x f 0 ≡ get_or (get_or c i []) f 0 → column f (set c i x) ≡ column f c
  unfolding column
  column-same f e = map-set_same (λ y. get_or y f 0) c i x [] e

-- two columns are a column of words
pub word-column-same : (f : ℕ) (c c' : List (List ℕ)) → column f c' ≡ column f c → column (f + 1) c' ≡ column (f + 1) c
    → word_column f c' ≡ word_column f c
word-column-same f c c' e e' =
    ext_get_or 0 (word_column f c') (word_column f c)
    (length-word-column f c' ∙ sym (length-column f c') ∙ ap length e ∙ length-column f c ∙ sym (length-word-column f c))
    (λ i l. word-column-at f c' i ∙ ap₂ (λ (a b : ℕ). a + b * half) (at f e i) (at (f + 1) e' i) ∙ sym (word-column-at f c i))
  where
    at : (g : ℕ) → column g c' ≡ column g c → (i : ℕ) → get_or (get_or c' i []) g 0 ≡ get_or (get_or c i []) g 0
    at g s i = sym (column-at g c' i) ∙ ap (λ (t : List ℕ). get_or t i 0) s ∙ column-at g c i

pub word-only : {f : ℕ} (g : ℕ) (c c' : List (List ℕ)) → Only f c c' → (g ≡ f → ⊥) → (g + 1 ≡ f → ⊥) → word_column g c' ≡ word_column g c
word-only g c c' o n m = word-column-same g c c' (o g n) (o (g + 1) m)

-- ---- a store
pub stored : (c : List (List ℕ)) (i f x : ℕ) → length (get_or c i []) ≡ cell_words → f < cell_words
    → Stored f i x c (set c i (set (get_or c i []) f x))
stored c i f x long l =
    record {
      is =
          column-set c i (set (get_or c i []) f x) f
          ∙ ap (λ (v : ℕ). set (column f c) i v) (get_or-set_same (get_or c i []) f x 0 (omega arith));
      other = λ g n. column-same c i (set (get_or c i []) f x) g (get_or-set_other (get_or c i []) f g x 0 n);
    }

-- ---- an entry
-- a word is its halves
pub halves : (x : ℕ) → x % half + x / half * half ≡ x
halves x = omega arith

-- a cell with an entry written into it
abbrev pub cell_written : List ℕ → (a b p q distance parent next bucket : ℕ) → List ℕ
cell_written x a b p q distance parent next bucket =
    let c₁ = set (set x place_field a) (place_field + 1) b in
    let c₂ = set (set c₁ pattern_field p) (pattern_field + 1) q in
    set (set (set (set (set c₂ distance_field distance) parent_field parent) next_field next) marks_field 0) bucket_field bucket

-- what is written into x, of which only the head stays
record Holds (x y : List ℕ) (a b p q d r n u : ℕ) : Type 0 where
  pub head : get_or y head_field 0 ≡ get_or x head_field 0
  pub place-low : get_or y place_field 0 ≡ a
  pub place-high : get_or y (place_field + 1) 0 ≡ b
  pub pattern-low : get_or y pattern_field 0 ≡ p
  pub pattern-high : get_or y (pattern_field + 1) 0 ≡ q
  pub distance : get_or y distance_field 0 ≡ d
  pub parent : get_or y parent_field 0 ≡ r
  pub next : get_or y next_field 0 ≡ n
  pub marks : get_or y marks_field 0 ≡ 0
  pub bucket : get_or y bucket_field 0 ≡ u

holds : (x : List ℕ) → bucket_field < length x → (a b p q distance parent next bucket : ℕ)
    → Holds x (cell_written x a b p q distance parent next bucket) a b p q distance parent next bucket
holds [] l a b p q d r n u = absurd (omega arith)
holds (x₀ ∷ []) l a b p q d r n u = absurd (omega arith)
holds (x₀ ∷ x₁ ∷ []) l a b p q d r n u = absurd (omega arith)
holds (x₀ ∷ x₁ ∷ x₂ ∷ []) l a b p q d r n u = absurd (omega arith)
holds (x₀ ∷ x₁ ∷ x₂ ∷ x₃ ∷ []) l a b p q d r n u = absurd (omega arith)
holds (x₀ ∷ x₁ ∷ x₂ ∷ x₃ ∷ x₄ ∷ []) l a b p q d r n u = absurd (omega arith)
holds (x₀ ∷ x₁ ∷ x₂ ∷ x₃ ∷ x₄ ∷ x₅ ∷ []) l a b p q d r n u = absurd (omega arith)
holds (x₀ ∷ x₁ ∷ x₂ ∷ x₃ ∷ x₄ ∷ x₅ ∷ x₆ ∷ []) l a b p q d r n u = absurd (omega arith)
holds (x₀ ∷ x₁ ∷ x₂ ∷ x₃ ∷ x₄ ∷ x₅ ∷ x₆ ∷ x₇ ∷ []) l a b p q d r n u = absurd (omega arith)
holds (x₀ ∷ x₁ ∷ x₂ ∷ x₃ ∷ x₄ ∷ x₅ ∷ x₆ ∷ x₇ ∷ x₈ ∷ []) l a b p q d r n u = absurd (omega arith)
holds (x₀ ∷ x₁ ∷ x₂ ∷ x₃ ∷ x₄ ∷ x₅ ∷ x₆ ∷ x₇ ∷ x₈ ∷ x₉ ∷ x) l a b p q d r n u =
    record {
      head = refl;
      place-low = refl;
      place-high = refl;
      pattern-low = refl;
      pattern-high = refl;
      distance = refl;
      parent = refl;
      next = refl;
      marks = refl;
      bucket = refl;
    }

pub entered : (c : List (List ℕ)) (i place pattern distance parent next bucket : ℕ) → length (get_or c i []) ≡ cell_words → {a b p q : ℕ} → a ≡ place % half
    → b ≡ place / half → p ≡ pattern % half → q ≡ pattern / half
    → Entered i place pattern distance parent next bucket c (set c i (cell_written (get_or c i []) a b p q distance parent next bucket))
entered c i place pattern distance parent next bucket long {a} {b} {p} {q} ea eb ep eq =
    record {
      places = word place_field place h.place-low h.place-high (ap₂ (λ (m n : ℕ). m + n * half) ea eb ∙ halves place);
      patterns = word pattern_field pattern h.pattern-low h.pattern-high (ap₂ (λ (m n : ℕ). m + n * half) ep eq ∙ halves pattern);
      distances = field distance_field distance h.distance;
      parents = field parent_field parent h.parent;
      heads = column-same c i y head_field h.head;
      nexts = field next_field next h.next;
      marks = field marks_field 0 h.marks;
      buckets = field bucket_field bucket h.bucket;
    }
  where
    x : List ℕ
    x = get_or c i []

    y : List ℕ
    y = cell_written (get_or c i []) a b p q distance parent next bucket

    h : Holds (get_or c i []) (cell_written (get_or c i []) a b p q distance parent next bucket) a b p q distance parent next bucket
    h = holds (get_or c i []) (omega arith) a b p q distance parent next bucket

    field : (f v : ℕ) → get_or (cell_written (get_or c i []) a b p q distance parent next bucket) f 0 ≡ v
        → column f (set c i (cell_written (get_or c i []) a b p q distance parent next bucket)) ≡ set (column f c) i v
    field f v e = column-set c i (cell_written (get_or c i []) a b p q distance parent next bucket) f ∙ ap (λ (v : ℕ). set (column f c) i v) e

    word : (f v : ℕ) {m n : ℕ} → get_or (cell_written (get_or c i []) a b p q distance parent next bucket) f 0 ≡ m
        → get_or (cell_written (get_or c i []) a b p q distance parent next bucket) (f + 1) 0 ≡ n → m + n * half ≡ v
        → word_column f (set c i (cell_written (get_or c i []) a b p q distance parent next bucket)) ≡ set (word_column f c) i v
    word f v e e' s =
        word-column-set c i (cell_written (get_or c i []) a b p q distance parent next bucket) f
        ∙ ap (λ (v : ℕ). set (word_column f c) i v) (ap₂ (λ (m n : ℕ). m + n * half) e e' ∙ s)
