-- One step on words: what a prepared instruction does to a configuration, and the exit that it takes.
use Rattle.std.specs.Prelude.{Bool, true, false, not, cond, List, ℕ, ℤ, pos, get_or, replicate, ltb}
use Rattle.std.proofs.Math.Option.{Option, none, some}
use Rattle.model.specs.Machine.{Exit, p_exit, m_exit, exit_if}
use Rattle.flow.specs.Limits.{max_variables}
use Rattle.pattern_word.specs.Inner.Digits.{undigits}
use Rattle.pattern_word.specs.Inner.Pattern.{lane, lanes, value_of, less_of, assign_of}
use Rattle.configuration.specs.Inner.Place.{words, ends_of, go_of, finish_of}
use Rattle.constants.specs.Inner.Constants.{offset}
use Rattle.configuration.specs.declared.Words.{Words}
use Rattle.configuration.specs.declared.Op.{Op}
use Rattle.configuration.specs.declared.Action.{Action}
use Rattle.configuration.specs.declared.Action.TheVariants.{Read, Assign, Test, Go, Stop}

-- the code of term u, if the variables have these codes
unfoldable pub term_of : Op → (codes : List ℕ) → ℕ → ℕ
term_of op codes u = cond (ltb u max_variables) (get_or codes u 0) op.constant

-- whether the comparison holds
unfoldable pub holds_of : (w : ℕ) → Op → Words → Bool
holds_of w op x = less_of w (term_of op (lanes w x.pattern) op.left) (term_of op (lanes w x.pattern) op.right)

-- whether tape a has met its end
unfoldable pub ended_of : (place a : ℕ) → Bool
ended_of place a = get_or (ends_of place) a false

-- on to instruction n
unfoldable pub go_on : Words → ℕ → Words
go_on x n = words (go_of x.place n) x.pattern

-- the variable gets the value y, and on to p: an assignment of y, or a read that finds y
unfoldable pub take_of : (w : ℕ) → Op → Words → ℕ → Words
take_of w op x y = words (go_of x.place op.p) (assign_of w x.pattern op.variable y)

-- the step that reads no record, by the action: a read meets its tape's end
abbrev pub next_by : Action → (w : ℕ) → Op → Words → Words
next_by Read w op x = words (finish_of x.place op.tape op.m) x.pattern
next_by Assign w op x = take_of w op x (value_of w (term_of op (lanes w x.pattern) op.left))
next_by Test w op x = go_on x (cond (holds_of w op x) op.p op.m)
next_by Go w op x = go_on x op.p
next_by Stop w op x = x

unfoldable pub next_of : (w : ℕ) → Op → Words → Words
next_of w op x = next_by op.action w op x

-- the member by a record of value y of the fan over v; f is the first member, in which v is C1
abbrev pub member_of : (w v : ℕ) → Words → ℕ → Words
member_of w v f y = words f.place (assign_of w f.pattern v y)

-- the exit of the step that reads no record
abbrev pub word_exit_by : Action → (w : ℕ) → Op → Words → Option Exit
word_exit_by Read w op x = some m_exit
word_exit_by Assign w op x = none
word_exit_by Test w op x = some (exit_if (holds_of w op x))
word_exit_by Go w op x = none
word_exit_by Stop w op x = none

unfoldable pub word_exit_of : (w : ℕ) → Op → Words → Option Exit
word_exit_of w op x = word_exit_by op.action w op x

-- what the steps of an instruction weigh, by the action
abbrev pub weight_by : Action → ℕ
weight_by Read = 1
weight_by Assign = 0
weight_by Test = 1
weight_by Go = 0
weight_by Stop = 0

unfoldable pub weight_of : Op → ℕ
weight_of op = weight_by op.action

-- whether the step takes no exit and goes on, by the action
abbrev pub goes_on_by : Action → Bool
goes_on_by Read = false
goes_on_by Assign = true
goes_on_by Test = false
goes_on_by Go = true
goes_on_by Stop = false

unfoldable pub goes_on_of : Op → Bool
goes_on_of op = goes_on_by op.action

-- whether some step takes the exit: of a read m always, and p if its tape has not ended
abbrev pub takes_by : Action → (w : ℕ) → Op → Words → Exit → Bool
takes_by Read w op x p_exit = not (ended_of x.place op.tape)
takes_by Read w op x m_exit = true
takes_by Assign w op x e = false
takes_by Test w op x p_exit = holds_of w op x
takes_by Test w op x m_exit = not (holds_of w op x)
takes_by Go w op x e = false
takes_by Stop w op x e = false

unfoldable pub takes_of : (w : ℕ) → Op → Words → Exit → Bool
takes_of w op x e = takes_by op.action w op x e

-- the start: instruction 1, no end met, every variable 0
unfoldable pub start_of : (lo : ℤ) → Words
start_of lo = words 8 (undigits lane (replicate max_variables (offset (pos 0) lo)))
