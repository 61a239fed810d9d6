-- What is promised of the reading of an input: the bytes stand within the buffer, and where the reader says which bytes it has left, they are
-- those, in their order. The system says nothing of its bytes, nor when a read fails; tests/inputs.py tries that.
use Rattle.std.specs.Prelude.{ℕ, ◌≡◌, ◌≤◌, ◌⊎◌, List, length, take, Ok, Err}
use Rattle.std.specs.Io.KnownBytes.{Consumes, IsAtEnd}
use Rattle.std.specs.declared.option.Option.{Option}
use Rattle.std.specs.declared.result.Result.{Result}

abbrev pub WithinBuffer : {E : Type 0} → Result ℕ E → List ℕ → Type 0
WithinBuffer (Ok n) buf = n ≤ length buf
WithinBuffer (Err e) buf = Unit {0}

-- The bytes that the reader gave stand at the buffer's start, and the reading stops only where the buffer is full or the input at its end.
-- A read that fails gives none, and the bytes of the reads before it stand there.
abbrev pub TakenFrom : {E : Type 0} → Result ℕ E → (before after : Option (List ℕ)) → List ℕ → Type 0
TakenFrom (Ok n) before after buf = Consumes before after (take n buf) × ((n ≡ length buf) ⊎ IsAtEnd after)
TakenFrom (Err e) before after buf = (n : ℕ) × (n ≤ length buf) × Consumes before after (take n buf)
