-- A head that is read from cells which held anything: it counts if it names an entry of its bucket, and else the bucket has none.
use mathlib.Core.Path.{◌≡◌, sym, ap, ◌∙◌}
use mathlib.Core.List.{List}
use Prim.Native.Nat.{ℕ, ◌+◌, ◌-◌, ◌≤◌, ◌<◌}
use native.Mathlib.Omega.{arith}
use lib.ListN.{get_or}
use Rattle.cells.specs.Inner.Columns.{place_field, pattern_field, head_field, bucket_field, column, word_column}
use Rattle.cells.specs.Inner.Index.{node_at, bucket_of}
use Rattle.cells.specs.Inner.Entries.{FilledIn, LatestIn}
use Rattle.cells.proofs.Insertion.{head_of_lem, head_void}

module _ (c : List (List ℕ)) (count size b head : ℕ) (f : FilledIn c count size) (read : head ≡ get_or (column head_field c) b 0) where
  abbrev bucket : ℕ → ℕ
  bucket = λ i. bucket_of (node_at (word_column place_field c) (word_column pattern_field c) i) size

  pub head_void_read : ((i : ℕ) → i < count → head ≡ i + 1 → ⊥) → LatestIn c count size b 0
  head_void_read none = head_void bucket _ _ count b f.index.chained (λ i l e s. none i l (read ∙ s))

  -- the bucket that the entry which it names holds
  module _ (r : ℕ) (held : r ≡ get_or (column bucket_field c) (head - 1) 0) where
    pub head-counts : (head ≡ 0 → ⊥) → head ≤ count → r ≡ b → LatestIn c count size b head
    head-counts some within e =
        rw read (head_of_lem bucket _ _ count b f.index.chained (head - 1) (omega arith) (sym (f.bucket (head - 1) (omega arith)) ∙ sym held ∙ e))

    pub head-other : (r ≡ b → ⊥) → LatestIn c count size b 0
    head-other n =
        head_void bucket _ _ count b f.index.chained
        (λ i l e s. let t : head - 1 ≡ i = omega (arith, read, s) in
        n (held ∙ ap (λ (k : ℕ). get_or (column bucket_field c) k 0) t ∙ f.bucket i l ∙ e))
