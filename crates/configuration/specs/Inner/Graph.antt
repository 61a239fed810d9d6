-- The graph on words of a search. Its edges: the step that reads no record; and, for a read whose tape has not ended, a step for each trial record.
-- An edge costs what the step weighs.
use Rattle.std.specs.Prelude.{◌≡◌, false, ℕ, ℤ}
use Rattle.std.proofs.Math.Option.{Option, some}
use Rattle.graph.specs.Inner.Graph.{Graph}
use Rattle.model.specs.Language.{Flow, instruction}
use Rattle.model.specs.Machine.{Exit, p_exit}
use Rattle.model.specs.Distance.{weight}
use Rattle.configuration.specs.Inner.Place.{at_of}
use Rattle.configuration.specs.Inner.Op.{op_of}
use Rattle.configuration.specs.Inner.Step.{next_of, take_of, word_exit_of, ended_of, start_of}
use Rattle.configuration.specs.declared.Words.{Words}
use Rattle.configuration.specs.declared.Op.{Op}
use Rattle.configuration.specs.declared.Action.TheVariants.{Read}
use Rattle.pattern_word.specs.Inner.Span.{Trial}

pub data WordEdge (w : ℕ) (op : Op) (x : Words) : Option Exit → Words → Type 0 where
  moves : WordEdge w op x (word_exit_of w op x) (next_of w op x)
  takes : (y : ℕ) → op.action ≡ Read → ended_of x.place op.tape ≡ false → Trial w y → WordEdge w op x (some p_exit) (take_of w op x y)

-- the prepared instruction that words are about to run
abbrev pub op_at : (lo : ℤ) → Flow → Words → Op
op_at lo flow x = op_of lo (instruction flow (at_of x.place))

unfoldable pub word_graph : (lo : ℤ) (w : ℕ) → Flow → Graph Words (Option Exit)
word_graph lo w flow = record { start = start_of lo; Edge = λ x e y. WordEdge w (op_at lo flow x) x e y; cost = weight }
