-- `Cases::next` meets its contract, place by place.
use mathlib.Core.Path.{refl}
use native.Mathlib.Omega.{arith}
use Rattle.test_cases.proofs.Laws.{case_at}
use Rattle.test_cases.specs.Cases.{Places}
use Rattle.test_cases.proofs.CasesIterator.next.Goals as goal

pub returns-clause-steps : goal.returns-clause-steps
returns-clause-steps c =
    let s = c.args.self.now in
    let r : Places = record { named = c.end_of-named.result; start = c.text_start-start.result; end = c.empty_line-end.result } in
    (refl, case_at s.file.now s.at _ r (omega arith) c.end_of-named.ensures.0 c.text_start-start.ensures.0 c.empty_line-end.ensures.0 refl refl)
