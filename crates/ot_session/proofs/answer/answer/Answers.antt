use Rattle.ot_session.proofs.RunLemmas.{would_run}
use Rattle.ot_session.proofs.answer.answer.Goals as goal

pub returns-in-Err-Closed-clause-runs : goal.returns-in-Err-Closed-clause-runs
returns-in-Err-Closed-clause-runs g c = λ not. would_run _ _ _ _ c.in-ToRun.spec c.in-Ok.ensures.opened c.in-ToRun.is

pub returns-in-Err-Stranger-clause-runs : goal.returns-in-Err-Stranger-clause-runs
returns-in-Err-Stranger-clause-runs g c = λ not. would_run _ _ _ _ c.in-ToRun.spec c.in-Ok.ensures.opened c.in-ToRun.is
