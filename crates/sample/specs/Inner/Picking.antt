-- What a finished table gives for an exit: a sample in the row, or none, or a row that is too short (document 01, "Distances and
-- configurations" and "Where a request is turned back").
use Rattle.std.specs.Prelude.{◌≡◌, List, ℕ, ℤ, Option, Some, None, Result, Ok, Err}
use Rattle.model.specs.Language.{Flow, C1, C2}
use Rattle.model.specs.Machine.{Exit}
use Rattle.model.specs.Distance.{NoDistance}
use Rattle.flow.specs.declared.Refusal.{Refusal}
use Rattle.flow.specs.declared.Refusal.TheVariants.{ShortRow}
use Rattle.sample.specs.declared.SampleAnswer.{SampleAnswer}
use Rattle.sample.specs.Written.{Written, Short}

-- what a table of a flow with so many tapes gives for an exit; without a sample the row is unchanged
unfoldable pub PickedIs : Flow → (tapes i : ℕ) → Exit → (row row' : List ℤ) → Result (Option SampleAnswer) Refusal → Type 0
PickedIs flow tapes i e row row' (Ok (Some r)) = (r.tapes ≡ tapes) × Written (C1 flow) (C2 flow) flow i e r.distance row row' r.lengths
PickedIs flow tapes i e row row' (Ok None) = NoDistance flow i e × (row' ≡ row)
PickedIs flow tapes i e row row' (Err why) = (why ≡ ShortRow) × Short flow i e row × (row' ≡ row)
