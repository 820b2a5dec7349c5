use Rattle.ot_model.specs.View.{stmts_of}
use Rattle.ot_law_raceless.proofs.laws.nothing_races_in.Goals as goal

pub returns : goal.returns
returns c =
    let job = c.args.job.now in
    c.accepted_races_in_no_run.ensures (stmts_of job.checked.program.body.items) job.before c.checked-named.ensures.named.body job.checked.disciplined
