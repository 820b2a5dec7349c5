use Rattle.std.proofs.Common.{◌∙◌, ap, subst}
use Rattle.std.specs.Prelude.{Ok}
use Rattle.ot_exec_verdict.specs.Findings.{OpenOnNone}
use Rattle.ot_exec_verdict.proofs.FindingLemmas.{told_meets}
use Rattle.ot_exec_verdict.proofs.locked.locked_ways.Goals as goal

pub returns : goal.returns
returns c =
    let code = c.args.code.now in
    let l = c.args.limits in
    let none = subst (OpenOnNone code l) (c.deref.ensures.value ∙ c.new-none.ensures.items) (c.in_ok-met.ensures.none (ap Ok c.in-None.is)) in
    told_meets code l c.met_from.new.faults c.told.result (c.in_ok-met.ensures.faults (tt, tt)) none c.told.ensures
