use Rattle.std.proofs.Common.{◌∙◌, ap, sym, subst, arith, List, is_some}
use Rattle.ot_job.proofs.Common.{IfOk-from_err, updated, Region, region_stopped, HasPiece}
use Rattle.ot_job.proofs.StepLemmas.{moved-running, moved-long}
use Rattle.ot_job.proofs.ViewLemmas.{on_err_always}
use Rattle.ot_job.proofs.tasks.Tasks.settle.Goals as goal

pub stop-requires : goal.stop-requires
stop-requires c =
    let rs = c.args.self.now in
    let i = c.args.i in
    let piece = c.requires.piece in
    subst (λ (l : List Region). HasPiece l i) (sym c.in_ok-move_on.ensures.moved) (record {
      known = omega (arith, piece.known, moved-long c.args.taken c.args.group i rs);
      out = ap is_some (moved-running c.args.taken c.args.group i rs i) ∙ piece.out;
    })

pub returns-clause-settled : goal.returns-clause-settled
returns-clause-settled c = c.stop.ensures ∙ ap (λ (l : List Region). updated l c.args.i region_stopped) c.in_ok-move_on.ensures.moved

pub returns-in_err-move_on : goal.returns-in_err-move_on
returns-in_err-move_on c =
    let err = c.from_residual.ensures.0 in
    record { ordered = IfOk-from_err _ _ err; settled = IfOk-from_err _ _ err; refused = on_err_always _ c.in_err-move_on.ensures.refused }
