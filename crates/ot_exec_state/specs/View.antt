-- What the code's structs stand for.
use Rattle.std.specs.Prelude.{map}
use Rattle.ot_exec_outline.specs.View.{noted_in}
use Rattle.ot_exec_state.specs.Slots as s
use Rattle.ot_exec_state.specs.Memory as m
use Rattle.ot_exec_state.specs.Trail as t
use Rattle.ot_exec_state.specs.Nest as n
use Rattle.ot_exec_state.specs.Locks as k
use Rattle.ot_exec_state.specs.declared.slots.Slots.{Slots}
use Rattle.ot_exec_state.specs.declared.memory.Memory.{Memory}
use Rattle.ot_exec_state.specs.declared.trail.Trail.{Trail}
use Rattle.ot_exec_state.specs.declared.nest.Nest.{Nest}
use Rattle.ot_exec_state.specs.declared.locks.Locks.{Locks}

abbrev pub slots_of : Slots → s.Slots
slots_of x = s.slots x.base x.values.items

abbrev pub memory_of : Memory → m.Memory
memory_of x = m.memory x.objects.items x.members.items

abbrev pub trail_of : Trail → t.Trail
trail_of x = t.trail x.task x.context x.contexts.items x.rows.items x.held.items (noted_in x.log.items) x.touches

abbrev pub nest_of : Nest → n.Nest
nest_of x = n.nest x.frames.items x.groups.items x.parts.items

abbrev pub locks_of : Locks → k.Locks
locks_of x = k.locks x.known.items (map (λ s. s.items) x.sets.items) x.held x.taken.items
