use Rattle.ot_exec_verdict.proofs.FindingLemmas.{other_meets}
use Rattle.ot_exec_verdict.proofs.others.other_ways.Goals as goal

pub returns-in_default-met : goal.returns-in_default-met
returns-in_default-met c = other_meets c.in-Some.other.code c.args.limits c.in_ok-met.met c.in_ok-met.ensures
