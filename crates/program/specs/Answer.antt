-- What is promised of an answer that succeeds: what is written is made of the bytes that the reader gave, and of no others. As of a
-- reading (crate input), the bytes are known where the reader says which it has left.
use Rattle.std.specs.Prelude.{◌≡◌, ℕ, List, length, take, Err, MatchResult}
use Rattle.std.specs.declared.option.Option.{Option}
use Rattle.std.specs.declared.result.Result.{Result}
use Rattle.input.specs.Input.{TakenFrom}

-- There is a reading of at most `most` bytes. If it gave n bytes, r is what the call that writes may give at these; if it failed, r is its error.
-- So an `Ok` comes from a call at the bytes that the reader gave; of an `Err` nothing more is known.
abbrev pub Answers : {A E : Type 0} → Result A E → (most : ℕ) (before after : Option (List ℕ)) (writes : List ℕ → Result A E → Type 0) → Type 0
Answers {A} {E} r most before after writes = (reading : Result ℕ E) × (text : List ℕ) × (length text ≡ most)
    × TakenFrom reading before after text × MatchResult reading (λ n. writes (take n text) r) (λ e. r ≡ Err e)
