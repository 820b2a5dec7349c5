use Rattle.std.proofs.Common.{◌≡◌, ◌≤◌, ◌-◌}
use Rattle.ot_exec_outline.specs.Followed.{list_answer}
use Rattle.ot_exec_machine.specs.Runs.{run_steps}
use Rattle.ot_exec_machine.specs.View.{machine_state}
use Rattle.ot_exec_machine.proofs.machine.Machine.go.Given as goal

abbrev pub invariant-loop : goal.invariant-loop
invariant-loop l =
    (run_steps l.code l.limits (list_answer l.answers) (l.limits.steps - l.counter) l.asked (machine_state l.self)
    ≡ run_steps l.code l.limits (list_answer l.answers) l.limits.steps 0 (machine_state l.fn.self))
    × (l.asked ≤ l.counter)
