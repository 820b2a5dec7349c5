use Rattle.ot_model.specs.Cells.{lengths}
use Rattle.ot_job_task.specs.Pieces.{leading, after_parts, test_of, awake}
use Rattle.ot_job_task.specs.Touched.{piece_touches}
use Rattle.ot_job_task.proofs.HeldLemmas.{piece-in, held-there}
use Rattle.ot_job_task.proofs.prepared.prepare.Goals as goal

pub returns-clause-there : goal.returns-clause-there
returns-clause-there c = λ cells named.
    (let r = c.args.task.now in
    held-there cells r.own (piece_touches (leading (awake r).rest) (test_of (after_parts (awake r).rest))) _ (piece-in (lengths cells) (awake r).rest named) c.in_ok-assigns.ensures.held)
