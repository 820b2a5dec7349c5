use Rattle.ot_exec_verdict.specs.Findings.{SaysMore}
use Rattle.ot_exec_verdict.proofs.judging.named_run.Given as goal

abbrev pub invariant-loop : goal.invariant-loop
invariant-loop l = SaysMore l.fn.code l.code
