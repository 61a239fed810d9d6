-- The part of a row that holds one tape's records (document 01, "Distances and configurations").
use Rattle.std.specs.Prelude.{◌≡◌, cond, ◌&&◌, List, ℕ, ◌+◌, ◌-◌, ◌*◌, ltb, leb, ℤ, length, get_or, take, drop}
use Rattle.model.specs.Tapes.{total}
use Rattle.sample_row.specs.declared.Span.{Span}

-- the part of one tape, counted from 1, in a row of so many cells. For a tape that does not exist, or lengths that all together
-- reach past the row, it is the empty part at the row's start; an existing tape of length 0 has its own place
unfoldable pub span_of : (lengths : List ℕ) → (tape cells : ℕ) → Span
span_of lengths tape cells =
    cond (ltb 0 tape && leb tape (length lengths) && leb (total lengths) cells)
    (record { start = total (take (tape - 1) lengths); count = get_or lengths (tape - 1) 0 })
    (record { start = 0; count = 0 })

-- the slice `part` at the address `place` is that part of the row at the address `home`; an address is a block and an offset in
-- bytes, and a record has four of them
pub record IsPart (span : Span) (row : List ℤ) (home : ℕ × ℕ) (part : List ℤ) (place : ℕ × ℕ) : Type 0 where
  pub records : part ≡ take span.count (drop span.start row)
  pub block : place.0 ≡ home.0
  pub offset : place.1 ≡ span.start * 4 + home.1
