-- Bytes put into a row.
use Rattle.std.specs.Prelude.{◌≡◌, List, ℕ, ◌+◌, length}
use Rattle.std.proofs.lemmas.List.Edits.{sets}

-- a line of a word and two numbers has no more bytes
abbrev pub line_bytes : ℕ
line_bytes = 64

-- bs stand in the row from a place on, and `next` is the place behind them
pub record Put (bs row : List ℕ) (at : ℕ) (row' : List ℕ) (next : ℕ) : Type 0 where
  pub end : next ≡ at + length bs
  pub is : row' ≡ sets row at bs
