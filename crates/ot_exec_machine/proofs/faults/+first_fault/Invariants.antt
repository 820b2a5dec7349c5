use Rattle.ot_exec_machine.proofs.faults.+first_fault.Given as goal

abbrev pub decreases-first_fault : goal.decreases-first_fault
decreases-first_fault l = l.questions
