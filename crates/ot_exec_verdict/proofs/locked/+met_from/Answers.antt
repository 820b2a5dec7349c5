use Rattle.std.proofs.Common.{◌∙◌, ap, subst}
use Rattle.std.specs.Prelude.{IfOk, Ok}
use Rattle.ot_exec_verdict.specs.Findings.{MeetsOne, MeetsSome, HasMore, AreFaults, OpenOnNone}
use Rattle.ot_exec_verdict.proofs.FindingLemmas.{if_ok, on_ok, one_met, more_faults, settled_open, both_open}
use Rattle.ot_exec_verdict.proofs.locked.+met_from.Goals as goal

pub returns-then-run-given-clause-met : goal.returns-then-run-given-clause-met
returns-then-run-given-clause-met t c =
    let code = c.args.gone.code.now in
    let l = c.args.gone.limits in
    if_ok c.met_on.result (MeetsOne c.in_ok-run.run') (MeetsSome code l) (one_met code l c.args.given.now c.in_ok-run.run' c.in_ok-run.ensures.told) c.met_on.ensures.met

pub returns-then-run-given-clause-none : goal.returns-then-run-given-clause-none
returns-then-run-given-clause-none t c = λ is.
    settled_open c.args.gone.code.now c.args.gone.limits c.args.given.now c.in_ok-run.run' c.in_ok-run.ensures.told c.if-run-given.true
    (subst (λ r. IfOk r (MeetsOne c.in_ok-run.run')) is c.met_on.ensures.met)

pub returns-then-run-given-clause-faults : goal.returns-then-run-given-clause-faults
returns-then-run-given-clause-faults t c = λ are.
    let code = c.args.gone.code.now in
    let l = c.args.gone.limits in
    on_ok c.met_on.result (HasMore c.in_ok-run.run' c.args.faults.now c.met_on.new.faults) (AreFaults code l c.met_on.new.faults)
    (more_faults code l c.args.given.now c.in_ok-run.run' c.args.faults.now c.met_on.new.faults c.in_ok-run.ensures.told are) c.met_on.ensures.faults

pub returns-clause-none : goal.returns-clause-none
returns-clause-none t c = λ is.
    let code = c.args.gone.code.now in
    let l = c.args.gone.limits in
    let given = c.args.given.now in
    both_open code l given (subst (OpenOnNone code l) (c.deref.ensures.value ∙ c.in_ok-one.ensures) (c.in_ok-met.ensures.none (ap Ok c.in-None.is)))
    (subst (OpenOnNone code l) (c.deref-in-None.ensures.value ∙ c.in_ok-two-in-None.ensures) (c.met_from-in-None.ensures.none is))
