-- `tape_maker::run` meets its contract: a text that is refused, and one that is legal.
use mathlib.Core.Path.{refl}
use Rattle.std.proofs.lemmas.Result.{err_from_is_err_and}
use Rattle.tape_maker.proofs.RunLaws.{refused_is, run_carried, requested-fault, requested-ok}
use Rattle.tape_maker.proofs.run.Goals as goal

pub returns-in_err-flow : goal.returns-in_err-flow
returns-in_err-flow c =
    let p = err_from_is_err_and c.from_residual.result c.from_residual.ensures.1 in
    rw (p.1, p.2) (refused_is _ _ _ _ _ _ (requested-fault _ _ _ _ _ _ _ c.in_err-flow.ensures) refl refl)

pub returns : goal.returns
returns c = run_carried (requested-ok _ _ _ _ _ _ _ c.in_ok-flow.ensures.read) c.run_flow.ensures
