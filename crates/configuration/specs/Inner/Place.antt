-- The place word: three bits for the tapes on which a read has met the end, above them seven for the number of the instruction about to be run.
-- With the pattern word it is a configuration (document 01, "Distances and configurations").
use Rattle.std.specs.Prelude.{Bool, List, map, ℕ, ◌+◌, ◌*◌, ◌/◌, ◌%◌, ℤ, set, take, eqb}
use Rattle.model.specs.Language.{Flow}
use Rattle.model.specs.Configuration.{Configuration}
use Rattle.flow.specs.Limits.{max_tapes}
use Rattle.pattern_word.specs.Inner.Digits.{digits, undigits}
use Rattle.pattern_word.specs.Inner.Pattern.{lanes, mark_of}
use Rattle.configuration.specs.declared.Words.{Words}

abbrev pub words : (place pattern : ℕ) → Words
words place pattern = record { place = place; pattern = pattern }

-- the instruction about to be run
abbrev pub at_of : ℕ → ℕ
at_of place = place / 8 % 128

-- the tapes whose end was met
unfoldable pub ends_of : ℕ → List Bool
ends_of place = map (eqb 1) (digits 2 max_tapes place)

-- on to instruction n; the same with tape a ended, counted from 0
unfoldable pub go_of : (place n : ℕ) → ℕ
go_of place n = n * 8 + place % 8

unfoldable pub finish_of : (place a n : ℕ) → ℕ
finish_of place a n = n * 8 + undigits 2 (set (digits 2 max_tapes place) a 1)

-- the configuration that two words are. There are always three bits and four lanes; a flow uses the first T bits and the first V lanes.
unfoldable pub configuration_of : (lo : ℤ) (w : ℕ) → Flow → Words → Configuration
configuration_of lo w flow x =
    record {
      next = at_of x.place;
      ended = take flow.tapes (ends_of x.place);
      marks = take flow.variables (map (mark_of lo w) (lanes w x.pattern));
    }
