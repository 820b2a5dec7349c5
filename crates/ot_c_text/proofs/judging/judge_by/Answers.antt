use Rattle.std.proofs.lemmas.Result.{IfOk-weaker}
use Rattle.ot_c_text.proofs.judging.judge_by.Goals as goal

pub returns : goal.returns
returns c = IfOk-weaker c.report_c.result _ _ (λ told reports. (c.judged.result, c.judged.ensures, reports)) c.report_c.ensures
