-- What the machine's struct stands for.
use Rattle.ot_exec_state.specs.View.{slots_of, memory_of, trail_of, nest_of, locks_of}
use Rattle.ot_exec_machine.specs.State as states
use Rattle.ot_exec_machine.specs.declared.machine.Machine.{Machine}

abbrev pub machine_state : Machine → states.MachineState
machine_state x = states.state x.at (slots_of x.slots) (memory_of x.memory) (trail_of x.trail) (nest_of x.nest) (locks_of x.locks) x.siblings.items x.tasks x.ended
