use Rattle.ot_why_reason.proofs.DueLemmas.{due}
use Rattle.ot_why_reason.proofs.laws.faults_are_due.Goals as goal

pub returns : goal.returns
returns c = due
