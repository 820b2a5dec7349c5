use Rattle.std.proofs.Common.{◌≡◌, ◌++◌, ◌-◌}
use Rattle.ot_exec_machine.specs.Telling.{around}
use Rattle.ot_exec_machine.proofs.telling.contexts_of.Given as goal

abbrev pub invariant-loop : goal.invariant-loop
invariant-loop l = l.found.items ++ around l.contexts (l.most - l.counter) l.number ≡ around l.contexts l.most l.context
