use Rattle.ot_file_judge.proofs.VerdictLemmas.{answered_verdict, answered_passed, run_verdict, run_passed}
use Rattle.ot_file_judge.proofs.verdict.judge_line.Goals as goal

pub returns-in-Answered-clause-verdict : goal.returns-in-Answered-clause-verdict
returns-in-Answered-clause-verdict c = answered_verdict _ _ _ _ c.verdict_on_last.result c.in_ok-open.ensures.opened c.in-Answered.is c.verdict_on_last.ensures

pub returns-in-Answered-clause-passed : goal.returns-in-Answered-clause-passed
returns-in-Answered-clause-passed c = answered_passed _ _ _ _ c.verdict_on_last.result c.in_ok-open.ensures.opened c.in-Answered.is c.verdict_on_last.ensures

pub returns-in-ToRun-clause-verdict : goal.returns-in-ToRun-clause-verdict
returns-in-ToRun-clause-verdict c = run_verdict _ _ _ _ c.in-ToRun.spec c.in_ok-open.ensures.opened c.in-ToRun.is

pub returns-in-ToRun-clause-passed : goal.returns-in-ToRun-clause-passed
returns-in-ToRun-clause-passed c = λ _. run_passed _ _ _ _ _ c.in-ToRun.spec c.in_ok-open.ensures.opened c.in-ToRun.is c.close_refused.ensures
