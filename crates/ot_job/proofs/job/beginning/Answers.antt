use Rattle.std.proofs.Common.{◌∙◌}
use Rattle.ot_job.proofs.Common.{IfOk-from_err}
use Rattle.ot_job.proofs.job.beginning.Goals as goal

pub returns-in_err-cells : goal.returns-in_err-cells
returns-in_err-cells c =
    let err = c.from_residual.ensures.0 in record { cells = IfOk-from_err _ _ err; named = IfOk-from_err _ _ err; root = IfOk-from_err _ _ err }

pub returns-in_err-body : goal.returns-in_err-body
returns-in_err-body c =
    let err = c.from_residual-in_err-body.ensures.0 in record { cells = IfOk-from_err _ _ err; named = IfOk-from_err _ _ err; root = IfOk-from_err _ _ err }

pub returns-in_err-tasks : goal.returns-in_err-tasks
returns-in_err-tasks c =
    let err = c.from_residual-in_err-tasks.ensures.0 in record { cells = IfOk-from_err _ _ err; named = IfOk-from_err _ _ err; root = IfOk-from_err _ _ err }

pub returns-clause-cells : goal.returns-clause-cells
returns-clause-cells c = c.in_ok-cells.ensures ∙ c.before-2.ensures
