use Rattle.std.proofs.Common.{subst}
use Rattle.ot_exec_verdict.specs.Findings.{MeetsOther}
use Rattle.ot_exec_verdict.proofs.others.others_of.Goals as goal

pub returns-in-Some-met : goal.returns-in-Some-met
returns-in-Some-met c =
    let way = c.args.setting.bounds.way in
    c.others_in.ensures way (subst (MeetsOther way) c.in-Some-met.is c.in_ok-met.ensures)
