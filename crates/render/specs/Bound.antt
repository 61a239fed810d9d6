-- The line of a bound: `bound,N` or `bound,over`; or `refused,NUMBER,PLACE`, as of a report.
use Rattle.std.specs.Prelude.{List, [], ◌∷◌, ℕ, Option, Some, None, Result, Ok, Err}
use Rattle.text.specs.Bytes.{bytes}
use Rattle.text.specs.Write.{decimal, parted, ended}
use Rattle.flow.specs.declared.Refusal.{Refusal}
use Rattle.render.specs.Report.{refusal_line}

abbrev pub bound_line : Result (Option ℕ) Refusal → List ℕ
bound_line (Ok (Some n)) = parted (bytes "bound" ∷ decimal n ∷ [])
bound_line (Ok None) = bytes "bound,over"
bound_line (Err why) = refusal_line why

-- the text of an answer
abbrev pub bound_text : Result (Option ℕ) Refusal → List ℕ
bound_text r = ended (bound_line r ∷ [])
