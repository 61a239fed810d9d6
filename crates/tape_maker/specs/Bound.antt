-- How many cells a flow takes (document 02, T-01), asked by its text.
use Rattle.std.specs.Prelude.{ℕ, Option, Result, Ok, Err}
use Rattle.model.specs.Language.{Flow}
use Rattle.flow.specs.declared.Refusal.{Refusal}
use Rattle.flow_bound.specs.Bound.{bound_of, bound_answer}

-- the answer of a text: its own refusals come first
unfoldable pub bound_in : Result Flow Refusal → Result (Option ℕ) Refusal
bound_in (Ok flow) = Ok (bound_answer (bound_of flow))
bound_in (Err why) = Err why
