use Rattle.ot_exec_verdict.proofs.others.others_of.Given as goal

abbrev pub invariant-loop : goal.invariant-loop
invariant-loop l = Unit {0}
