use Rattle.ot_exec_verdict.specs.Findings.{IsFault}
use Rattle.ot_exec_verdict.proofs.ways.first_limit.Given as goal

abbrev pub invariant-loop : goal.invariant-loop
invariant-loop l = IsFault l.code l.limits l.last
