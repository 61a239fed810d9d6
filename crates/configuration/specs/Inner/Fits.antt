-- What is asked of a flow and of words: that the flow fits the words, and that the words stand for a configuration of the flow.
use Rattle.std.specs.Prelude.{◌≡◌, false, ℕ, ◌-◌, ◌<◌, ◌≤◌, ℤ, pos, drop, replicate}
use Rattle.model.specs.Language.{Flow}
use Rattle.model.specs.Inner.View.{view_at, LegalFlow, Targeted}
use Rattle.flow.specs.Limits.{max_tapes, max_variables}
use Rattle.pattern_word.specs.Inner.Pattern.{lanes, Valid}
use Rattle.configuration.specs.Inner.Place.{ends_of}
use Rattle.constants.specs.Inner.Constants.{offset}
use Rattle.configuration.specs.declared.Words.{Words}
use Rattle.pattern_word.specs.Inner.Span.{Span}

-- a number that a place word has room for
abbrev pub FitsPlace : ℕ → Type 0
FitsPlace n = n < 128

-- what is asked of a flow: the theory's demands, and that it fits the words
pub record FlowFits (lo hi : ℤ) (w : ℕ) (flow : Flow) : Type 0 where
  pub span : Span lo hi w
  pub legal : LegalFlow lo hi flow
  pub tapes : flow.tapes ≤ max_tapes
  pub variables : flow.variables ≤ max_variables
  pub targets : (i : ℕ) → Targeted FitsPlace (view_at flow i)

-- words that stand for a configuration of the flow: the codes are those of values; a lane that the flow does not name
-- holds the code of 0, and a bit that it does not name is 0
pub record ProperWords (lo : ℤ) (w : ℕ) (flow : Flow) (x : Words) : Type 0 where
  pub again : Valid w x.pattern
  pub idle : drop flow.variables (lanes w x.pattern) ≡ replicate (max_variables - flow.variables) (offset (pos 0) lo)
  pub unmet : drop flow.tapes (ends_of x.place) ≡ replicate (max_tapes - flow.tapes) false
  pub place_fits : x.place < 1024
